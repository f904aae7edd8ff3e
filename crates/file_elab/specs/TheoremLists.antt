-- What the parts of a list of theorems have in common.
use Rattle.std.specs.Prelude.{◌≡◌, ℕ, ◌≤◌, List, length, map}
use Rattle.basics.specs.Limits.{most_theorems}
use Rattle.file_elab.specs.Theorems.{LfTheorem}

-- The names stand in the order of the theorems, of which there are no more than may be.
pub record KeepsNames (theorems : List LfTheorem) (names : List (List ℕ)) : Type 0 where
  pub few : length theorems ≤ most_theorems
  pub names_are : names ≡ map (λ theorem. theorem.name) theorems
