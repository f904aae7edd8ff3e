use Rattle.std.proofs.Common.{◌≡◌, List, ◌++◌, map, take, All}
use Rattle.lf_definitions.specs.Typing.{LfGoal}
use Rattle.lf_terms.specs.Targets.{goal_of}
use Rattle.applications.specs.Applications.{goals_left}
use Rattle.meta_goals.specs.Bindings.{assigning}
use Rattle.build_shared.specs.Remaining.{CanLeave}
use Rattle.goal_advance.proofs.advance.add_left.Given as goal

abbrev pub invariant-loop-i : goal.invariant-loop-i
invariant-loop-i l = (all : List LfGoal) → All (CanLeave all l.assign) l.goals → l.left ≡ l.fn.left ++ goals_left all (assigning l.assign) (map goal_of (take l.i l.items))
