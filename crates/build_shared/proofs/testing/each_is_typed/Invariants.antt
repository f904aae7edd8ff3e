use Rattle.std.proofs.Common.{◌≡◌, take, map}
use Rattle.std.specs.Prelude.{true}
use Rattle.lf_terms.specs.Targets.{goal_of}
use Rattle.applications.specs.Applications.{entries_are_typed}
use Rattle.meta_goals.specs.Bindings.{assigning}
use Rattle.build_shared.specs.Attempts.{among_at}
use Rattle.build_shared.proofs.testing.each_is_typed.Given as goal

abbrev pub invariant-loop-i : goal.invariant-loop-i
invariant-loop-i l = entries_are_typed l.attempt.sig.now (among_at l.attempt) (assigning l.whole) l.list (map goal_of (take l.i l.items)) ≡ true
