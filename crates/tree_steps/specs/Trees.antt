-- What the parts of a tree keep of the state of its journal.
use Rattle.std.specs.Prelude.{◌≡◌, ℕ, suc, ◌+◌, ◌<◌, ◌≤◌, Bool, true, false, ◌==◌, List, [], ◌∷◌, ◌++◌, map, All, length, Option, Some, None, slice_get, nat_eq}
use Rattle.std.specs.List.{list_any, IsDistinct, Contains, find}
use Rattle.tree_runs.specs.Shapes.{TreeShape, nodes_count, alternatives_at, IsShape}
use Rattle.tree_runs.specs.Addresses.{address_of}
use Rattle.tree_runs.specs.States.{TreeNode, TreeState, state_of, claim}
use Rattle.tree_runs.specs.Marks.{is_decided, is_proved, is_stuck}
use Rattle.tree_steps.specs.declared.answers.Root.{Root}
use Rattle.tree_steps.specs.declared.answers.Root.TheVariants.{Proved, Stuck, Undecided}
use Rattle.std.specs.Option.{option_map}
use Rattle.std.specs.Vec.{vec_capacity}
use Rattle.tree_steps.specs.declared.answers.Claim.{Claim}
use Rattle.tree_steps.specs.declared.answers.Claim.TheVariants.{Take, Decided, Spent, Idle}
use Rattle.tree_runs.specs.Runs.{is_busy, is_holding, is_run}
use Rattle.tree_marks.specs.TreeMarks.{Settled, is_alternative_proved}
use Rattle.tree_queue.specs.Queues.{IsQueueOf}
use Rattle.tree_steps.specs.declared.tree.Tree.{Tree}
use Rattle.tree_steps.specs.declared.tree.Holding.{Holding}
use Rattle.tree_runs.specs.Best.{is_open, is_eligible}
use Rattle.tree_queue.specs.declared.entry.Entry.{Entry}

-- whether an entry is of a node
abbrev pub has_node : ℕ → List Entry → Bool
has_node node entries = list_any (λ entry. entry.node == node) entries

abbrev pub nodes_of : List Entry → List ℕ
nodes_of entries = map (λ entry. entry.node) entries

module _ {S : Type 0} (state : TreeState S) where
  -- an entry tells a node's priority, and how long its address is
  pub record IsEntryOf (entry : Entry) : Type 0 where
    pub content : TreeNode S
    pub there : slice_get state.nodes entry.node ≡ Some content
    pub priority : entry.priority ≡ content.priority
    pub depth : entry.depth ≡ length content.address

  -- The entries are of open nodes, each once, and only irrelevant ones are missing.
  pub record FitsQueue (entries : List Entry) : Type 0 where
    pub are_open : (node : ℕ) → has_node node entries ≡ true → is_open state node ≡ true
    pub whole : (node : ℕ) → is_eligible state node ≡ true → has_node node entries ≡ true
    pub apart : IsDistinct nat_eq (nodes_of entries)
    pub described : All IsEntryOf entries

  -- what holds of the state of a run
  pub record IsRegular (budget : ℕ) : Type 0 where
    pub is_shape : IsShape state.shape
    pub sizes : length state.nodes ≡ nodes_count state.shape
    pub addresses : (node : ℕ) (content : TreeNode S) → slice_get state.nodes node ≡ Some content → content.address ≡ address_of state.shape node
    pub one_node : (seat first second : ℕ) → Contains state.held (seat, first) → Contains state.held (seat, second) → first ≡ second
    pub one_seat : (first second node : ℕ) → Contains state.held (first, node) → Contains state.held (second, node) → first ≡ second
    pub held_stands : (seat node : ℕ) → Contains state.held (seat, node) → node < length state.nodes
    pub committed_stands : (node : ℕ) → list_any (λ other. other == node) state.committed ≡ true → node < length state.nodes
    pub ungrown : (node : ℕ) → node < length state.nodes → list_any (λ other. other == node) state.committed ≡ false → alternatives_at state.shape node ≡ None
    pub held_uncommitted : (seat node : ℕ) → Contains state.held (seat, node) → list_any (λ other. other == node) state.committed ≡ false
    pub count : length state.committed + length state.held ≤ budget

-- the entries of nodes that have the numbers from one on
abbrev pub entries_from : {S : Type 0} → ℕ → List (TreeNode S) → List Entry
entries_from number [] = []
entries_from number (node ∷ nodes) = record { node = number; depth = length node.address; priority = node.priority } ∷ entries_from (suc number) nodes

-- what a tree's parts show of the state of its journal
module _ {P S N : Type 0} (branches : S → List (ℕ × List S)) (seen : N → S) (own : N → Type 0) where
  abbrev pub state_of_tree : Tree P N S → TreeState S
  state_of_tree tree = state_of branches (seen tree.root) tree.journal.events

  abbrev pub contents_of : Tree P N S → List N
  contents_of tree = tree.root ∷ tree.others.items

  -- each part shows its share of a state
  pub record Shows (state : TreeState S) (tree : Tree P N S) : Type 0 where
    pub regular : IsRegular state tree.budget
    pub shape : tree.shape.shape ≡ state.shape
    pub marks : Settled state.shape tree.marks.marks
    pub contents : map seen (contents_of tree) ≡ map (λ node. node.seen) state.nodes
    pub own_nodes : All own (contents_of tree)
    pub held : map (λ holding. (holding.seat, holding.entry.node)) tree.held.items ≡ state.held
    pub told : All (λ holding. IsEntryOf state holding.entry) tree.held.items
    pub commits : tree.commits ≡ length state.committed
    pub ordered : IsQueueOf state.shape tree.queue.entries
    pub fits : FitsQueue state tree.queue.entries
    pub queue_room : length tree.held.items ≤ tree.queue.spare
    pub journal_room : length tree.held.items ≤ tree.journal.spare

  -- The tree is the replay of its own journal, which is a run.
  pub record IsTree (tree : Tree P N S) : Type 0 where
    pub run : is_run branches tree.budget (seen tree.root) tree.journal.events ≡ true
    pub shows : Shows (state_of_tree tree) tree

  -- What a claim answers: that the root is decided, that as many nodes as the budget are committed or held, that no node is eligible, or a node
  -- that was claimed, with its content.
  abbrev pub IsAnswer : Tree P N S → Tree P N S → ℕ → Claim N → Type 0
  IsAnswer old new seat (Take node content) =
      (new.journal.events ≡ old.journal.events ++ claim seat node ∷ []) × own content × (Some (seen content) ≡ option_map (λ n. n.seen) (slice_get (state_of_tree old).nodes node))
  IsAnswer old new seat Decided = (is_decided (state_of_tree old).shape 0 ≡ true) × (new.journal.events ≡ old.journal.events)
  IsAnswer old new seat (Spent held) =
      (is_decided (state_of_tree old).shape 0 ≡ false) × (length (state_of_tree old).committed + length (state_of_tree old).held ≡ old.budget) × (held ≡ length (state_of_tree old).held)
      × (new.journal.events ≡ old.journal.events)
  IsAnswer old new seat (Idle held) =
      (is_decided (state_of_tree old).shape 0 ≡ false) × (length (state_of_tree old).committed + length (state_of_tree old).held < old.budget) × ((node : ℕ) → is_eligible (state_of_tree old) node ≡ false)
      × (held ≡ length (state_of_tree old).held) × (0 < held) × (new.journal.events ≡ old.journal.events)

-- there is room for so many alternatives and children of a node
pub record HasRoomFor {P S N : Type 0} (width children : ℕ) (tree : Tree P N S) : Type 0 where
  pub shape : children + width ≤ tree.shape.spare
  pub marks : children ≤ tree.marks.spare
  pub queue : length tree.held.items + children ≤ tree.queue.spare
  pub counts : width ≤ tree.journal.spare_counts
  pub others : length tree.others.items + children ≤ vec_capacity tree.others

-- what is known of the root of a shape
abbrev pub IsVerdict : TreeShape → Root → Type 0
IsVerdict shape Proved = is_proved shape 0 ≡ true
IsVerdict shape Stuck = is_stuck shape 0 ≡ true
IsVerdict shape Undecided = is_decided shape 0 ≡ false

-- the node that a seat holds
abbrev pub held_by : List Holding → ℕ → Option ℕ
held_by holdings seat = option_map (λ holding. holding.entry.node) (find (λ holding. holding.seat == seat) holdings)

-- The node that a seat holds, by the state.
abbrev pub IsHeld : {S : Type 0} → TreeState S → ℕ → Option ℕ → Type 0
IsHeld state seat None = is_busy state seat ≡ false
IsHeld state seat (Some node) = is_holding state seat node ≡ true

-- The seat holds the node, and what stands there is seen as this.
pub record HoldsSeen {S : Type 0} (state : TreeState S) (seat node : ℕ) (seen : S) : Type 0 where
  pub holds : is_holding state seat node ≡ true
  pub there : Some seen ≡ option_map (λ content. content.seen) (slice_get state.nodes node)

-- the least alternative of a node all of whose children are proved
abbrev pub IsLeastProved : TreeShape → ℕ → Option ℕ → Type 0
IsLeastProved shape node None = (alternative : ℕ) → is_alternative_proved shape node alternative ≡ false
IsLeastProved shape node (Some alternative) =
    (is_alternative_proved shape node alternative ≡ true) × ((other : ℕ) → other < alternative → is_alternative_proved shape node other ≡ false)
