-- Tables of the nodes that the goals of a list carry.
use Rattle.std.specs.Prelude.{◌≡◌, ℕ, suc, Bool, true, List, [], ◌∷◌, Option, Some, None, if◌then◌else◌, nat_eq}
use Rattle.std.specs.List.{list_any}
use Rattle.lf_definitions.specs.GoalLists.{LfGoals, all_goals}
use Rattle.clusters.specs.Clusters.{is_one_of}

-- Each goal's number has as its entry what it carries, and no other number has one.
abbrev pub IsTable : LfGoals → (ℕ → ℕ) → (ℕ → Option ℕ) → Type 0
IsTable list carried entries = (m : ℕ) → entries m ≡ (if is_one_of (all_goals list) m then Some (carried m) else None)

-- A goal with this entry is moved by a step at a node: it is new, or carries the node.
abbrev pub moves : ℕ → Option ℕ → Bool
moves node None = true
moves node (Some other) = nat_eq other node

-- the entry of a goal after a step at a node: as it was where the goal isn't moved, and else this one
abbrev pub kept : ℕ → Option ℕ → Option ℕ → Option ℕ
kept node entry other = if moves node entry then other else entry

-- a number is the first of one of some pairs
abbrev pub has_first : List (ℕ × ℕ) → ℕ → Bool
has_first pairs m = list_any (λ pair. nat_eq m pair.0) pairs

-- The entry of a number after those of the first numbers of pairs: each list of pairs has a node, and these count from one on.
abbrev pub given : ℕ → List (List (ℕ × ℕ)) → ℕ → Option ℕ → Option ℕ
given node [] m entry = entry
given node (pairs ∷ rest) m entry = given (suc node) rest m (if has_first pairs m then Some node else entry)
