-- Branches by what their nodes are seen as.
use Rattle.std.specs.Prelude.{ℕ, List, map, All}
use Rattle.tree_steps.specs.declared.branches.Branch.{Branch}
use Rattle.tree_steps.specs.declared.branches.Branches.{Branches}

module _ {N : Type 0} where
  -- the percentage of an alternative, and as what its children are seen
  abbrev pub branch_seen : {S : Type 0} → (N → S) → Branch N → ℕ × List S
  branch_seen seen branch = (branch.percent, map seen branch.nodes.items)

  abbrev pub branches_seen : {S : Type 0} → (N → S) → Branches N → List (ℕ × List S)
  branches_seen seen branches = map (branch_seen seen) branches.alternatives.items

  -- each child is an own node
  abbrev pub AllOwn : (N → Type 0) → Branches N → Type 0
  AllOwn own branches = All (λ branch. All own branch.nodes.items) branches.alternatives.items
