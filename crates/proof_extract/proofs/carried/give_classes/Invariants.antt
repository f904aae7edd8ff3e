use Rattle.std.proofs.Common.{◌≡◌, ◌+◌, ℕ, drop, map}
use Rattle.std.specs.Prelude.{nat_eq}
use Rattle.indexmap.specs.IndexMap.{get}
use Rattle.proof_extract.specs.Tables.{given}
use Rattle.proof_extract.proofs.carried.give_classes.Given as goal

abbrev pub invariant-loop-i : goal.invariant-loop-i
invariant-loop-i l =
    (m : ℕ) → given (l.first + l.i) (map (λ c. c.renaming) (drop l.i l.classes)) m (get nat_eq l.made m) ≡ given l.first (map (λ c. c.renaming) l.classes) m (get nat_eq l.fn.made m)
