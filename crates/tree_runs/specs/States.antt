-- Events, and the state that a list of them leads to.
use Rattle.std.specs.Prelude.{ℕ, suc, ◌*◌, ◌/◌, not, ◌==◌, List, [], ◌∷◌, ◌++◌, length, Option, Some, None, slice_get}
use Rattle.std.specs.List.{filter}
use Rattle.tree_runs.specs.Shapes.{TreeShape, root_shape, grow}
use Rattle.tree_runs.specs.Addresses.{Address}

-- A seat claims a node, commits it with the numbers of children of its alternatives, or gives it back.
pub data TreeEvent : Type 0 where
  claim : (seat node : ℕ) → TreeEvent
  commit : (seat node : ℕ) (counts : List ℕ) → TreeEvent
  release : (seat node : ℕ) → TreeEvent

-- a node that stands
pub record TreeNode (S : Type 0) : Type 0 where
  pub address : Address
  pub seen : S
  pub priority : ℕ

-- The nodes by number and their shape, the committed nodes in the order of the commits, and who holds which node.
pub record TreeState (S : Type 0) : Type 0 where
  pub nodes : List (TreeNode S)
  pub shape : TreeShape
  pub committed : List ℕ
  pub held : List (ℕ × ℕ)

-- the root's priority
abbrev pub root_priority : ℕ
root_priority = 1_000_000_000_000_000_000

-- a seat gives back what it holds
abbrev pub without_seat : ℕ → List (ℕ × ℕ) → List (ℕ × ℕ)
without_seat seat held = filter (λ pair. not (pair.0 == seat)) held

abbrev pub start : {S : Type 0} → S → TreeState S
start root = record { nodes = record { address = []; seen = root; priority = root_priority } ∷ []; shape = root_shape; committed = []; held = [] }

-- the children of one alternative, from a place on
abbrev pub children_nodes : {S : Type 0} → TreeNode S → ℕ → ℕ → ℕ → List S → List (TreeNode S)
children_nodes node alternative percent place [] = []
children_nodes node alternative percent place (child ∷ children) =
    record { address = node.address ++ (alternative, place) ∷ []; seen = child; priority = node.priority * percent / 100 }
    ∷ children_nodes node alternative percent (suc place) children

-- the children of all alternatives, from one on
abbrev pub branch_nodes : {S : Type 0} → TreeNode S → ℕ → List (ℕ × List S) → List (TreeNode S)
branch_nodes node alternative [] = []
branch_nodes node alternative (branch ∷ branches) =
    children_nodes node alternative branch.0 0 branch.1 ++ branch_nodes node (suc alternative) branches

-- how many children each alternative has
abbrev pub counts_of : {S : Type 0} → List (ℕ × List S) → List ℕ
counts_of [] = []
counts_of (branch ∷ branches) = length branch.1 ∷ counts_of branches

module _ {S : Type 0} (branches : S → List (ℕ × List S)) where
  abbrev pub after_commit : TreeState S → ℕ → ℕ → Option (TreeNode S) → TreeState S
  after_commit state seat node None = record state { held = without_seat seat state.held }
  after_commit state seat node (Some content) = record {
    nodes = state.nodes ++ branch_nodes content 0 (branches content.seen);
    shape = grow state.shape node (counts_of (branches content.seen));
    committed = state.committed ++ node ∷ [];
    held = without_seat seat state.held;
  }

  -- the state after an event, whether that was legal or not
  unfoldable pub after : TreeState S → TreeEvent → TreeState S
  after state (claim seat node) = record state { held = (seat, node) ∷ state.held }
  after state (commit seat node counts) = after_commit state seat node (slice_get state.nodes node)
  after state (release seat node) = record state { held = without_seat seat state.held }

  abbrev pub state_from : TreeState S → List TreeEvent → TreeState S
  state_from state [] = state
  state_from state (event ∷ events) = state_from (after state event) events

  -- the state that a journal leads to
  abbrev pub state_of : S → List TreeEvent → TreeState S
  state_of root journal = state_from (start root) journal
