-- What declarations of families and constants rest on.
use Rattle.std.proofs.Common.{◌≡◌, ℕ, suc, ◌<◌, [], ◌∷◌, length, refl, ap, arith}
use Rattle.lf_definitions.specs.Signatures.{LfSignature, names_of, typing_in, FormedSignature}
use Rattle.elab_terms.specs.KnownTypes.{KnownAt}
use Rattle.elab_terms.proofs.ReadTyped.{Founded-typing_in}

pub known_closed : (sig : LfSignature) → FormedSignature sig → KnownAt sig (typing_in sig [] []) []
known_closed sig formed = record { founded = Founded-typing_in sig formed; have_types = λ n within. absurd (none n within) }
  where
    none : (n : ℕ) → n < 0 → ⊥
    none n within = omega arith

pub names_count : (sig : LfSignature) → length (names_of sig) ≡ length sig
names_count [] = refl
names_count (entry ∷ sig) = ap suc (names_count sig)
