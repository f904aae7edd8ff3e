use Rattle.std.proofs.Common.{◌≡◌, drop}
use Rattle.unification.specs.Patterns.{has_number}
use Rattle.build_shared.proofs.dropping.is_one_of.Given as goal

abbrev pub invariant-loop-i : goal.invariant-loop-i
invariant-loop-i l = has_number l.places l.place ≡ has_number (drop l.i l.items) l.place
