use Rattle.std.proofs.Common.{ap, ◌∙◌, Some, None}
use Rattle.lf_definitions.specs.Typing.{goal_type}
use Rattle.lf_definitions.proofs.Variables.{rename_type-next_by_zero}
use Rattle.lf_terms.specs.Targets.{goal_of}
use Rattle.lf_kernel.proofs.Heads.{goal_known}
use Rattle.lf_kernel.proofs.head_type.type_of_goal.Goals as goal

pub returns-in-None : goal.returns-in-None
returns-in-None c = goal_known c.args.metas.now c.args.number None c.in-None.ensures

pub returns-in-Some : goal.returns-in-Some
returns-in-Some c =
    let found = goal_of c.in-Some.goal.now in
    ap Some (rename_type-next_by_zero (goal_type found)) ∙ goal_known c.args.metas.now c.args.number (Some found) c.in-Some.ensures
