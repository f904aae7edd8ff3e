-- The branches that a table gives.
use Rattle.std.specs.Prelude.{ℕ, ◌≤◌, List, [], map, min, All, Option, Some, None}
use Rattle.std.proofs.Math.Nat.{min-le_right}
use Rattle.std.proofs.lemmas.List.Elements.{All-map, All-nil}
use Rattle.tree_steps.specs.declared.branches.Branch.{Branch}
use Rattle.tree_steps.specs.declared.branches.Branches.{Branches}

-- an alternative, whose percentage is at most 100
abbrev pub capped : Branch ℕ → ℕ × List ℕ
capped branch = (min branch.percent 100, map (λ n. n) branch.nodes.items)

-- the branches of a row, if there is one
abbrev pub row_branches : Option (Branches ℕ) → List (ℕ × List ℕ)
row_branches None = []
row_branches (Some row) = map capped row.alternatives.items

-- no percentage is above 100
pub capped_low : (row : Option (Branches ℕ)) → All (λ branch. branch.0 ≤ 100) (row_branches row)
capped_low None = All-nil (λ branch. branch.0 ≤ 100)
capped_low (Some row) = All-map (λ branch. branch.0 ≤ 100) capped row.alternatives.items (λ k d l. min-le_right _ _)
