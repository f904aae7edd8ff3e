-- The entries and contents of the children that branches give.
use Rattle.std.specs.Prelude.{ℕ, zero, suc, ◌+◌, ◌*◌, ◌/◌, List, [], ◌∷◌, ◌++◌, map, length}
use Rattle.tree_queue.specs.declared.entry.Entry.{Entry}
use Rattle.tree_steps.specs.declared.branches.Branch.{Branch}

-- so many entries from a number on, of one depth and priority
abbrev pub alike : ℕ → ℕ → ℕ → ℕ → List Entry
alike number depth priority zero = []
alike number depth priority (suc count) = record { node = number; depth = depth; priority = priority } ∷ alike (suc number) depth priority count

module _ {N : Type 0} where
  -- the children of a node of this depth and priority
  abbrev pub children_of : ℕ → ℕ → ℕ → List (Branch N) → List Entry
  children_of number depth priority [] = []
  children_of number depth priority (branch ∷ branches) =
      alike number (depth + 1) (priority * branch.percent / 100) (length branch.nodes.items) ++ children_of (number + length branch.nodes.items) depth priority branches

  -- their contents
  abbrev pub nodes_made : List (Branch N) → List N
  nodes_made [] = []
  nodes_made (branch ∷ branches) = branch.nodes.items ++ nodes_made branches

  -- how many each alternative has
  abbrev pub widths : List (Branch N) → List ℕ
  widths branches = map (λ branch. length branch.nodes.items) branches
