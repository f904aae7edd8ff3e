use Rattle.meta_goals.specs.GoalsOf.{goals_of}
use Rattle.goal_book.specs.GoalBooks.{rules_in}
use Rattle.proof_replay.proofs.Scripts.{IsOnTheWay}
use Rattle.proof_replay.proofs.following.follow.Given as goal

abbrev pub invariant-loop-i : goal.invariant-loop-i
invariant-loop-i l = IsOnTheWay l.book.sig (rules_in l.book) (goals_of l.fn.list) l.script l.i l.trail
