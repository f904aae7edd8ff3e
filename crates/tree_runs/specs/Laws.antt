-- The laws of runs.
use Rattle.std.specs.Prelude.{◌≡◌, ◌⊎◌, ◌↔◌, ℕ, ◌<◌, ◌≤◌, Some, None, slice_get, Bool, true, false, ◌&&◌, List, [], ◌∷◌, ◌++◌}
use Rattle.tree_runs.specs.Shapes.{TreeShape, root_shape, nodes_count, alternatives_at, grow, IsShape}
use Rattle.tree_runs.specs.Marks.{IsLocal, is_proved, is_stuck, is_decided, is_relevant}
use Rattle.tree_runs.specs.Best.{IsBetter, Best, is_best}
use Rattle.tree_runs.specs.States.{TreeEvent, commit, TreeNode, TreeState, root_priority, after, state_of}
use Rattle.tree_runs.specs.Soundness.{is_committed, committed_addresses, IsSound, IsClaimedIn}
use Rattle.tree_runs.specs.Addresses.{address_of, Proved, Stuck}
use Rattle.tree_runs.specs.Runs.{is_holding, is_legal, is_run, is_settled, IsStillRun}

-- One more event at the end changes the state as the event says.
abbrev pub StatesGoOn : Type 0 → Type 0
StatesGoOn S =
    (branches : S → List (ℕ × List S)) (root : S) (journal : List TreeEvent) (event : TreeEvent) →
    state_of branches root (journal ++ event ∷ []) ≡ after branches (state_of branches root journal) event

-- A run goes on by one more event exactly where that is legal in its state.
abbrev pub RunsGoOn : Type 0 → Type 0
RunsGoOn S =
    (branches : S → List (ℕ × List S)) (budget : ℕ) (root : S) (journal : List TreeEvent) (event : TreeEvent) →
    is_run branches budget root (journal ++ event ∷ []) ≡ (is_run branches budget root journal && is_legal branches budget (state_of branches root journal) event)

-- What holds of no events, and goes on by legal events, holds of all runs.
abbrev pub RunsAreBuiltFromLegalEvents : Type 0 → Type 0
RunsAreBuiltFromLegalEvents S =
    (branches : S → List (ℕ × List S)) (budget : ℕ) (root : S) (test : List TreeEvent → Bool) →
    test [] ≡ true →
    ((journal : List TreeEvent) (event : TreeEvent) → is_run branches budget root journal ≡ true → test journal ≡ true →
    is_legal branches budget (state_of branches root journal) event ≡ true → test (journal ++ event ∷ []) ≡ true) →
    (journal : List TreeEvent) → is_run branches budget root journal ≡ true → test journal ≡ true

-- The root's shape is one, and so is each shape of which a node that stands and isn't grown is grown.
abbrev pub ShapesGrow : Type 0
ShapesGrow =
    IsShape root_shape
    × ((shape : TreeShape) (node : ℕ) (counts : List ℕ) → IsShape shape → node < nodes_count shape → alternatives_at shape node ≡ None → IsShape (grow shape node counts))

-- The marks of a shape satisfy the local equation at every node, and whatever satisfies it there is the marks.
abbrev pub MarksAreLocal : Type 0
MarksAreLocal =
    (shape : TreeShape) → IsShape shape →
    ((node : ℕ) → IsLocal shape (is_proved shape) (is_stuck shape) node)
    × ((proved stuck : ℕ → Bool) → ((node : ℕ) → IsLocal shape proved stuck node) → (node : ℕ) → (proved node ≡ is_proved shape node) × (stuck node ≡ is_stuck shape node))

-- No node is both proved and stuck.
abbrev pub MarksExclude : Type 0
MarksExclude = (shape : TreeShape) (node : ℕ) → is_proved shape node ≡ true → is_stuck shape node ≡ true → ⊥

-- Where a node that stands and isn't grown is grown, marks stay and relevance isn't won back.
abbrev pub MarksGrow : Type 0
MarksGrow =
    (shape : TreeShape) (node : ℕ) (counts : List ℕ) → IsShape shape → node < nodes_count shape → alternatives_at shape node ≡ None → (other : ℕ) →
    (is_proved shape other ≡ true → is_proved (grow shape node counts) other ≡ true)
    × (is_stuck shape other ≡ true → is_stuck (grow shape node counts) other ≡ true)
    × (other < nodes_count shape → is_relevant (grow shape node counts) other ≡ true → is_relevant shape other ≡ true)

-- Where the root is undecided, some relevant node stands that isn't grown.
abbrev pub UndecidedRootsHaveRelevantNodes : Type 0
UndecidedRootsHaveRelevantNodes =
    (shape : TreeShape) → IsShape shape → is_decided shape 0 ≡ false →
    (node : ℕ) × (node < nodes_count shape) × (alternatives_at shape node ≡ None) × (is_relevant shape node ≡ true)

-- The test of the best node is true of just the best node.
abbrev pub BestNodesAreTested : Type 0 → Type 0
BestNodesAreTested S = (state : TreeState S) (node : ℕ) → (is_best state node ≡ true → Best state node) × (Best state node → is_best state node ≡ true)

-- The state of each run is sound: nodes stand as the shape says and are those of the unfolding, just the committed nodes are grown, held nodes stand and aren't
-- grown, no two seats hold one node, no seat holds two, and committed and held nodes are at most the budget.
abbrev pub RunsAreSound : Type 0 → Type 0
RunsAreSound S =
    (branches : S → List (ℕ × List S)) (budget : ℕ) (root : S) (journal : List TreeEvent) → is_run branches budget root journal ≡ true →
    IsSound branches root budget (state_of branches root journal)

-- Different nodes have different addresses.
abbrev pub AddressesDiffer : Type 0
AddressesDiffer = (shape : TreeShape) (node other : ℕ) → IsShape shape → node < nodes_count shape → other < nodes_count shape → address_of shape node ≡ address_of shape other → node ≡ other

-- Of two nodes with different addresses just one is better, and what is better than a better one is better.
abbrev pub NodesAreRanked : Type 0 → Type 0
NodesAreRanked S =
    ((a b : TreeNode S) → (a.address ≡ b.address → ⊥) → IsBetter a b ⊎ IsBetter b a)
    × ((a b : TreeNode S) → IsBetter a b → IsBetter b a → ⊥)
    × ((a b c : TreeNode S) → IsBetter a b → IsBetter b c → IsBetter a c)

-- The best node is one.
abbrev pub BestNodesAreUnique : Type 0 → Type 0
BestNodesAreUnique S = (state : TreeState S) (node other : ℕ) → Best state node → Best state other → node ≡ other

-- The still run of a root and a budget is one.
abbrev pub StillRunsAreUnique : Type 0 → Type 0
StillRunsAreUnique S =
    (branches : S → List (ℕ × List S)) (budget : ℕ) (root : S) (one two : List TreeEvent) → IsStillRun branches budget root one → IsStillRun branches budget root two → one ≡ two

-- No node is committed twice in a run.
abbrev pub NothingIsCommittedTwice : Type 0 → Type 0
NothingIsCommittedTwice S =
    (branches : S → List (ℕ × List S)) (budget : ℕ) (root : S) (journal : List TreeEvent) (seat node : ℕ) (counts : List ℕ) →
    is_run branches budget root (journal ++ commit seat node counts ∷ []) ≡ true → is_committed (state_of branches root journal) node ≡ false

-- Each root and budget has a still run.
abbrev pub StillRunsExist : Type 0 → Type 0
StillRunsExist S = (branches : S → List (ℕ × List S)) (budget : ℕ) (root : S) → (journal : List TreeEvent) × IsStillRun branches budget root journal

-- In a run the marks of each node are those of its address in the set of the committed ones.
abbrev pub MarksAreThoseOfAddresses : Type 0 → Type 0
MarksAreThoseOfAddresses S =
    (branches : S → List (ℕ × List S)) (budget : ℕ) (root : S) (journal : List TreeEvent) → is_run branches budget root journal ≡ true →
    (node : ℕ) → node < nodes_count (state_of branches root journal).shape →
    ((is_proved (state_of branches root journal).shape node ≡ true) ↔ Proved branches root (committed_addresses (state_of branches root journal)) (address_of (state_of branches root journal).shape node))
    × ((is_stuck (state_of branches root journal).shape node ≡ true) ↔ Stuck branches root (committed_addresses (state_of branches root journal)) (address_of (state_of branches root journal).shape node))

-- The still run is a run, and ends settled.
abbrev pub StillRunsAreSettledRuns : Type 0 → Type 0
StillRunsAreSettledRuns S =
    (branches : S → List (ℕ × List S)) (budget : ℕ) (root : S) (journal : List TreeEvent) → IsStillRun branches budget root journal →
    (is_run branches budget root journal ≡ true) × (is_settled branches budget (state_of branches root journal) ≡ true)

-- What a seat holds it has claimed.
abbrev pub HeldNodesAreClaimed : Type 0 → Type 0
HeldNodesAreClaimed S =
    (branches : S → List (ℕ × List S)) (root : S) (journal : List TreeEvent) (seat node : ℕ) → is_holding (state_of branches root journal) seat node ≡ true → IsClaimedIn seat node journal

-- Where no percentage is above 100, no priority is above the root's.
abbrev pub PrioritiesAreBounded : Type 0 → Type 0
PrioritiesAreBounded S =
    (branches : S → List (ℕ × List S)) → ((seen : S) (i percent : ℕ) (children : List S) → slice_get (branches seen) i ≡ Some (percent, children) → percent ≤ 100) →
    (root : S) (journal : List TreeEvent) (node : ℕ) (content : TreeNode S) → slice_get (state_of branches root journal).nodes node ≡ Some content → content.priority ≤ root_priority
