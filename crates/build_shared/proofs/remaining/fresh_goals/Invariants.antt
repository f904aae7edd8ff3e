use Rattle.std.proofs.Common.{take, map}
use Rattle.lf_terms.specs.Targets.{goal_of}
use Rattle.meta_goals.specs.Bindings.{assigning}
use Rattle.build_shared.specs.Attempts.{among_at}
use Rattle.build_shared.specs.Remaining.{AreFresh}
use Rattle.build_shared.proofs.remaining.fresh_goals.Given as goal

abbrev pub invariant-loop-i : goal.invariant-loop-i
invariant-loop-i l = AreFresh (among_at l.attempt) (assigning l.whole.all) (map goal_of (take l.i l.goals)) (take l.i l.marks) l.fresh
