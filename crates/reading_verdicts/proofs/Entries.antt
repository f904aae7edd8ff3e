-- Entries of lists, and numbers that are compared.
use Rattle.std.proofs.Common.{◌≡◌, ℕ, zero, suc, ◌<◌, ◌≤◌, ◌⊎◌, Some, List, [], ◌∷◌, ◌++◌, length, take, refl, ap, arith}
use Rattle.std.specs.Prelude.{slice_get}
use Rattle.lf_definitions.specs.Syntax.{LfType, pi, pis, Context}

pub below_or_not : (n m : ℕ) → (n < m) ⊎ (m ≤ n)
below_or_not n m = grind arith

pub entry_at : {X : Type 0} (xs : List X) (i : ℕ) → i < length xs → (x : X) × (slice_get xs i ≡ Some x)
entry_at [] i within = absurd (omega arith)
entry_at (x ∷ xs) zero within = (x, refl)
entry_at (x ∷ xs) (suc i) within = entry_at xs i (omega arith)

pub length_take : {X : Type 0} (n : ℕ) (xs : List X) → n ≤ length xs → length (take n xs) ≡ n
length_take zero xs within = refl
length_take (suc n) [] within = absurd (omega arith)
length_take (suc n) (x ∷ xs) within = ap suc (length_take n xs (omega arith))

pub pis_append : (first missing : Context) (end : LfType) → pis (first ++ missing) end ≡ pis first (pis missing end)
pis_append [] missing end = refl
pis_append (a ∷ first) missing end = ap (pi a) (pis_append first missing end)
