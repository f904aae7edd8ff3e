-- Derivations by their lengths.
use Rattle.std.specs.Prelude.{◌≡◌, ℕ, zero, suc, List, [], ◌∷◌, Some, slice_get}
use Rattle.lf_definitions.specs.Signatures.{LfSignature}
use Rattle.lf_definitions.specs.GoalLists.{LfGoals, all_goals}
use Rattle.alternatives.specs.Rules.{LfRule}
use Rattle.alternatives.specs.Alternatives.{LfAlternative}
use Rattle.derivations.specs.Derivations.{alternatives_of}

-- A list has a derivation of so many steps.
abbrev pub Derives : LfSignature → List LfRule → ℕ → LfGoals → Type 0
Derives sig rules zero list = all_goals list ≡ []
Derives sig rules (suc n) list =
    (i : ℕ) × (alternative : LfAlternative) × (slice_get (alternatives_of sig rules list) i ≡ Some alternative) × Derives sig rules n alternative.goals

-- Lists have derivations of these lengths, one by one.
abbrev pub DeriveEach : LfSignature → List LfRule → List ℕ → List LfGoals → Type 0
DeriveEach sig rules [] [] = Unit {0}
DeriveEach sig rules [] (list ∷ lists) = ⊥
DeriveEach sig rules (n ∷ ns) [] = ⊥
DeriveEach sig rules (n ∷ ns) (list ∷ lists) = Derives sig rules n list × DeriveEach sig rules ns lists
