use Rattle.std.proofs.Common.{subst}
use Rattle.std.specs.Prelude.{IfSome}
use Rattle.lf_definitions.specs.GoalLists.{all_goals}
use Rattle.lf_definitions.specs.ShapedGoals.{ShapedGoals}
use Rattle.meta_goals.specs.GoalsOf.{goals_of}
use Rattle.step_tests.proofs.Theorems.{goals_are_shaped}
use Rattle.step_tests.proofs.answers.append_of_list.Goals as goal

pub append_reached-requires : goal.append_reached-requires
append_reached-requires c =
    let sig = c.args.program.now.sig in
    goals_are_shaped sig c.args.book.now.sig (goals_of c.in-Some.goals) c.requires.book
    (subst (λ found. IfSome found (λ goals. ShapedGoals sig (all_goals (goals_of goals)))) c.in-Some.is c.in_ok-found.ensures)
