use Rattle.std.proofs.Common.{◌≡◌, ◌∷◌, take, map}
use Rattle.lf_terms.specs.Terms.{term_of}
use Rattle.applications.specs.Applications.{entry_of}
use Rattle.build_shared.specs.Attempts.{among_at, goal_at}
use Rattle.build_shared.specs.Whole.{goal_binding, put_binding}
use Rattle.build_shared.proofs.whole.whole_assignment.Given as goal

abbrev pub invariant-loop-place : goal.invariant-loop-place
invariant-loop-place l =
    (l.whole.others ≡ map (put_binding (among_at l.attempt) (entry_of (goal_at l.attempt) (term_of l.done.becomes))) (take l.place l.entries))
    × (l.whole.all ≡ goal_binding (goal_at l.attempt) (term_of l.done.becomes) ∷ l.whole.others)
