-- Which nodes are open, and which of them is the best.
use Rattle.std.specs.Prelude.{◌≡◌, ◌⊎◌, ℕ, suc, Bool, true, false, not, ◌==◌, nat_lt, ◌&&◌, ◌||◌, List, [], ◌∷◌, length, Option, Some, None, slice_get}
use Rattle.std.specs.List.{list_any}
use Rattle.std.specs.declared.cmp.Ordering.{Ordering}
use Rattle.std.specs.declared.cmp.Ordering.TheVariants.{Less}
use Rattle.std.specs.Ordering.{nat_cmp, then_cmp, on, flip_args, is_lt}
use Rattle.std.specs.Cmp.Lexicographic.{slice_cmp}
use Rattle.tree_runs.specs.Addresses.{Address}
use Rattle.tree_runs.specs.Marks.{is_relevant}
use Rattle.tree_runs.specs.States.{TreeNode, TreeState}

-- two steps of an address, by alternative and then by place
abbrev pub step_cmp : ℕ × ℕ → ℕ × ℕ → Ordering
step_cmp = then_cmp (on (λ step. step.0) nat_cmp) (on (λ step. step.1) nat_cmp)

-- two addresses, step by step
abbrev pub address_cmp : Address → Address → Ordering
address_cmp = slice_cmp step_cmp

-- Two nodes, the better one first: by greater priority, then by shorter address, then by lexicographically smaller address.
abbrev pub rank_cmp : {S : Type 0} → TreeNode S → TreeNode S → Ordering
rank_cmp = then_cmp (on (λ node. node.priority) (flip_args nat_cmp)) (then_cmp (on (λ node. length node.address) nat_cmp) (on (λ node. node.address) address_cmp))

-- the first is better than the second
abbrev pub is_better : {S : Type 0} → TreeNode S → TreeNode S → Bool
is_better a b = is_lt (rank_cmp a b)

abbrev pub IsBetter : {S : Type 0} → TreeNode S → TreeNode S → Type 0
IsBetter a b = rank_cmp a b ≡ Less

abbrev pub stands : {S : Type 0} → TreeState S → ℕ → Bool
stands state node = nat_lt node (length state.nodes)

-- the node stands, and is neither committed nor held
abbrev pub is_open : {S : Type 0} → TreeState S → ℕ → Bool
is_open state node = stands state node && not (list_any (λ other. other == node) state.committed) && not (list_any (λ pair. pair.1 == node) state.held)

-- it is open and relevant
abbrev pub is_eligible : {S : Type 0} → TreeState S → ℕ → Bool
is_eligible state node = is_open state node && is_relevant state.shape node

-- the node is eligible, and better than each other that is
pub record Best {S : Type 0} (state : TreeState S) (node : ℕ) : Type 0 where
  pub content : TreeNode S
  pub there : slice_get state.nodes node ≡ Some content
  pub eligible : is_eligible state node ≡ true
  pub better : (other : ℕ) (rival : TreeNode S) → slice_get state.nodes other ≡ Some rival → is_eligible state other ≡ true → (other ≡ node) ⊎ IsBetter content rival

-- whether the node is better than each rival, which have the numbers from `number` on
abbrev pub beats_all : {S : Type 0} → TreeState S → ℕ → TreeNode S → ℕ → List (TreeNode S) → Bool
beats_all state node content number [] = true
beats_all state node content number (rival ∷ rivals) =
    (number == node || not (is_eligible state number) || is_better content rival) && beats_all state node content (suc number) rivals

abbrev pub is_best_with : {S : Type 0} → TreeState S → ℕ → Option (TreeNode S) → Bool
is_best_with state node None = false
is_best_with state node (Some content) = is_eligible state node && beats_all state node content 0 state.nodes

-- whether a node is the best
unfoldable pub is_best : {S : Type 0} → TreeState S → ℕ → Bool
is_best state node = is_best_with state node (slice_get state.nodes node)
