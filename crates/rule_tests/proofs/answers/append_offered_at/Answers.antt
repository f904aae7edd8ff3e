use Rattle.std.proofs.Common.{subst}
use Rattle.std.specs.Prelude.{IfSome}
use Rattle.lf_definitions.specs.GoalLists.{all_goals}
use Rattle.lf_definitions.specs.ShapedGoals.{ShapedGoals}
use Rattle.meta_goals.specs.GoalsOf.{goals_of}
use Rattle.rule_tests.proofs.answers.append_offered_at.Goals as goal

pub append_offered_for-requires-clause-goals : goal.append_offered_for-requires-clause-goals
append_offered_for-requires-clause-goals c =
    let sig = c.args.program.now.sig in
    subst (λ found. IfSome found (λ goals. ShapedGoals sig (all_goals (goals_of goals)))) c.in-Some.is c.in_ok-found.ensures
