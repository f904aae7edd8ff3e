-- The branches of nodes that double.
use Rattle.std.specs.Prelude.{ℕ, ◌+◌, ◌*◌, ◌≤◌, Bool, true, false, nat_lt, List, [], ◌∷◌, All}
use Rattle.std.proofs.lemmas.List.Elements.{All-nil, All-cons}
use Rattle.std.proofs.Math.Nat.{le_refl}

-- a node that has none below it
abbrev pub last_branches : Bool → List (ℕ × List ℕ)
last_branches true = (100, []) ∷ []
last_branches false = []

-- the branches of a node, told whether it is an inner one
abbrev pub branches_if : Bool → Bool → ℕ → List (ℕ × List ℕ)
branches_if true is_proved node = (100, (2 * node + 1) ∷ (2 * node + 2) ∷ []) ∷ []
branches_if false is_proved node = last_branches is_proved

abbrev pub doubling : ℕ → Bool → ℕ → List (ℕ × List ℕ)
doubling inner is_proved node = branches_if (nat_lt node inner) is_proved node

alone : (percent : ℕ) (nodes : List ℕ) → percent ≤ 100 → All {X = ℕ × List ℕ} (λ branch. branch.0 ≤ 100) ((percent, nodes) ∷ [])
alone percent nodes low = All-cons (λ branch. branch.0 ≤ 100) (percent, nodes) [] low (All-nil (λ branch. branch.0 ≤ 100))

low_if : (is_inner is_proved : Bool) (node : ℕ) → All (λ branch. branch.0 ≤ 100) (branches_if is_inner is_proved node)
low_if true is_proved node = alone 100 ((2 * node + 1) ∷ (2 * node + 2) ∷ []) (le_refl 100)
low_if false true node = alone 100 [] (le_refl 100)
low_if false false node = All-nil (λ branch. branch.0 ≤ 100)

-- no percentage is above 100
pub doubling_low : (inner : ℕ) (is_proved : Bool) (node : ℕ) → All (λ branch. branch.0 ≤ 100) (doubling inner is_proved node)
doubling_low inner is_proved node = low_if (nat_lt node inner) is_proved node
