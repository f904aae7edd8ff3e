use Rattle.std.proofs.Common.{◌≡◌, ℕ, map, take}
use Rattle.lf_definitions.specs.GoalLists.{all_goals}
use Rattle.goal_advance.specs.Following.{MayFollow, put_later}
use Rattle.goal_advance.proofs.follow.earlier_under.Given as goal

abbrev pub invariant-loop-place : goal.invariant-loop-place
invariant-loop-place l = (n : ℕ) (m : MayFollow n l.earlier l.later) → l.all ≡ map (put_later (all_goals m.between) l.later) (take l.place l.earlier)
