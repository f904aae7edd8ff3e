use Rattle.std.proofs.Common.{◌-◌, map, length}
use Rattle.std.specs.Prelude.{nat_eq}
use Rattle.goal_book.specs.GoalBooks.{rules_in}
use Rattle.indexmap.specs.IndexMap.{get}
use Rattle.lf_terms.specs.Types.{type_of}
use Rattle.meta_goals.specs.GoalsOf.{goals_of}
use Rattle.proof_replay.specs.Seen.{seen_step}
use Rattle.proof_extract.proofs.Ways.{HasCome, steps_allowed}
use Rattle.proof_extract.proofs.extracting.chosen_script.Given as goal

abbrev pub invariant-loop-goal : goal.invariant-loop-goal
invariant-loop-goal g l =
    HasCome l.problem.book.now.sig (rules_in l.problem.book.now) (type_of l.ty) l.tree (map seen_step l.script.items) (goals_of l.place.goals) (get nat_eq l.place.carried)

abbrev pub decreases-loop-goal : goal.decreases-loop-goal
decreases-loop-goal g l = steps_allowed l.problem.book.now.sig (rules_in l.problem.book.now) (type_of l.ty) l.tree - length l.script.items
