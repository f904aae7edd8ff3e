use Rattle.std.proofs.Common.{◌++◌}
use Rattle.std.proofs.lemmas.List.Elements.{All-append}
use Rattle.head_laws.specs.ReplacementLaws.{ShapedGoalOver}
use Rattle.meta_goals.specs.Instantiates.{GoalsAreShaped}
use Rattle.goals_tests.specs.Settings.{scope_of, kinds_of}
use Rattle.goals_tests.proofs.PutParts.{puts}
use Rattle.goals_tests.proofs.instances.left_goals.Goals as goal

pub apply_assign-requires : goal.apply_assign-requires
apply_assign-requires c =
    let Γ = scope_of c.args.setting.now c.args.variables.now in
    let kinds = kinds_of c.args.setting.now in
    puts Γ c.args.assign.now (GoalsAreShaped (c.in_ok-proofs.proofs ++ c.in_ok-witnesses.witnesses)) c.requires
    (kinds, All-append (ShapedGoalOver kinds Γ) c.in_ok-proofs.proofs c.in_ok-witnesses.witnesses c.in_ok-proofs.ensures c.in_ok-witnesses.ensures)
