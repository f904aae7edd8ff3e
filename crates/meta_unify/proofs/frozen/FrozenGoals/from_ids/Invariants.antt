use Rattle.std.proofs.Common.{◌≡◌, ℕ, take}
use Rattle.unification.specs.Patterns.{has_number}
use Rattle.meta_unify.proofs.frozen.FrozenGoals.from_ids.Given as goal

abbrev pub invariant-loop-i : goal.invariant-loop-i
invariant-loop-i l = (g : ℕ) → has_number l.numbers.keys g ≡ has_number (take l.i l.items) g
