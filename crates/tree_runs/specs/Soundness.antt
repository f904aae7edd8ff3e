-- What holds of the state of each run.
use Rattle.std.specs.Prelude.{◌≡◌, ℕ, ◌+◌, ◌<◌, ◌≤◌, ◌==◌, Bool, true, List, ◌∷◌, ◌++◌, length, map, Some, None, slice_get}
use Rattle.std.specs.List.{list_any}
use Rattle.tree_runs.specs.Shapes.{nodes_count, alternatives_at, IsShape}
use Rattle.tree_runs.specs.Addresses.{Address, address_of, at}
use Rattle.tree_runs.specs.States.{TreeEvent, claim, TreeNode, TreeState}
use Rattle.tree_runs.specs.Runs.{is_holding}

-- the node is among the committed ones
abbrev pub is_committed : {S : Type 0} → TreeState S → ℕ → Bool
is_committed state node = list_any (λ other. other == node) state.committed

-- the addresses of the committed nodes
abbrev pub committed_addresses : {S : Type 0} → TreeState S → List Address
committed_addresses state = map (address_of state.shape) state.committed

-- Nodes stand as the shape says, each is what the unfolding has at its address, just the committed nodes are grown, held nodes stand and aren't grown, no node
-- is held by two seats and no seat holds two, and committed and held nodes are at most the budget.
pub record IsSound {S : Type 0} (branches : S → List (ℕ × List S)) (root : S) (budget : ℕ) (state : TreeState S) : Type 0 where
  pub is_shape : IsShape state.shape
  pub nodes : length state.nodes ≡ nodes_count state.shape
  pub addresses : (node : ℕ) (content : TreeNode S) → slice_get state.nodes node ≡ Some content → content.address ≡ address_of state.shape node
  pub unfolding_has : (node : ℕ) (content : TreeNode S) → slice_get state.nodes node ≡ Some content → at branches root content.address ≡ Some content.seen
  pub committed_grown : (node : ℕ) → is_committed state node ≡ true → alternatives_at state.shape node ≡ None → ⊥
  pub grown_committed : (node : ℕ) (all : List (ℕ × ℕ)) → alternatives_at state.shape node ≡ Some all → is_committed state node ≡ true
  pub held_stand : (seat node : ℕ) → is_holding state seat node ≡ true → node < nodes_count state.shape
  pub held_ungrown : (seat node : ℕ) → is_holding state seat node ≡ true → alternatives_at state.shape node ≡ None
  pub one_seat : (seat other node : ℕ) → is_holding state seat node ≡ true → is_holding state other node ≡ true → seat ≡ other
  pub one_node : (seat node other : ℕ) → is_holding state seat node ≡ true → is_holding state seat other ≡ true → node ≡ other
  pub within : length state.committed + length state.held ≤ budget

-- the journal has the event in which the seat claimed the node
pub record IsClaimedIn (seat node : ℕ) (journal : List TreeEvent) : Type 0 where
  pub before : List TreeEvent
  pub later : List TreeEvent
  pub is : journal ≡ before ++ claim seat node ∷ later
