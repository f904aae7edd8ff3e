use Rattle.std.proofs.Common.{sym, ap, ◌∙◌}
use Rattle.std.specs.Prelude.{option_map}
use Rattle.lf_definitions.specs.GoalLists.{all_goals}
use Rattle.lf_terms.specs.Targets.{goal_of}
use Rattle.lf_terms.specs.Types.{type_of}
use Rattle.meta_goals.specs.GoalsOf.{goals_of}
use Rattle.build_apply.proofs.Heads.{constant_is_head}
use Rattle.build_apply.proofs.constants.add_constant.Goals as goal

pub add_backward-requires-clause-head : goal.add_backward-requires-clause-head
add_backward-requires-clause-head c =
    let u = c.args.usage.now in
    let is = sym (ap (option_map (λ t. type_of t.now)) c.in-Some.is) ∙ c.constant_type.ensures in
    constant_is_head u.sig.now c.requires.signature (all_goals (goals_of u.goals.now)) (goal_of u.goal.now) c.args.constant (type_of c.in-Some.ty.now) (sym is)
