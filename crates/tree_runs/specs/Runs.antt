-- Runs: journals in which each event is legal after those before it.
use Rattle.std.specs.Prelude.{◌≡◌, ℕ, ◌+◌, Bool, true, false, not, ◌==◌, nat_lt, ◌&&◌, ◌||◌, List, [], ◌∷◌, length, Option, Some, None, slice_get}
use Rattle.std.specs.List.{list_any}
use Rattle.tree_runs.specs.Marks.{is_decided}
use Rattle.tree_runs.specs.States.{TreeEvent, claim, commit, release, TreeNode, TreeState, start, after, counts_of}
use Rattle.tree_runs.specs.Best.{is_best}

-- the seat holds a node
abbrev pub is_busy : {S : Type 0} → TreeState S → ℕ → Bool
is_busy state seat = list_any (λ pair. pair.0 == seat) state.held

-- the seat holds this node
abbrev pub is_holding : {S : Type 0} → TreeState S → ℕ → ℕ → Bool
is_holding state seat node = list_any (λ pair. pair.0 == seat && pair.1 == node) state.held

abbrev pub same_counts : List ℕ → List ℕ → Bool
same_counts [] [] = true
same_counts [] (b ∷ ys) = false
same_counts (a ∷ xs) [] = false
same_counts (a ∷ xs) (b ∷ ys) = a == b && same_counts xs ys

module _ {S : Type 0} (branches : S → List (ℕ × List S)) where
  -- the counts are those of the node's branches
  abbrev pub are_counts : Option (TreeNode S) → List ℕ → Bool
  are_counts None counts = false
  are_counts (Some content) counts = same_counts counts (counts_of (branches content.seen))

  -- A claim is legal where the root is undecided, committed and held nodes are fewer than the budget, the seat holds nothing, and the node is
  -- the best. A commit is legal where the seat holds the node and the counts are those of its branches, and a release where the seat holds it.
  unfoldable pub is_legal : ℕ → TreeState S → TreeEvent → Bool
  is_legal budget state (claim seat node) =
      not (is_decided state.shape 0) && nat_lt (length state.committed + length state.held) budget && not (is_busy state seat) && is_best state node
  is_legal budget state (commit seat node counts) = is_holding state seat node && are_counts (slice_get state.nodes node) counts
  is_legal budget state (release seat node) = is_holding state seat node

  abbrev pub is_run_from : ℕ → TreeState S → List TreeEvent → Bool
  is_run_from budget state [] = true
  is_run_from budget state (event ∷ events) = is_legal budget state event && is_run_from budget (after branches state event) events

  -- each event is legal in the state before it
  abbrev pub is_run : ℕ → S → List TreeEvent → Bool
  is_run budget root journal = is_run_from budget (start root) journal

  -- nothing is held, and the root is decided or as many nodes as the budget are committed
  abbrev pub is_settled : ℕ → TreeState S → Bool
  is_settled budget state = (length state.held == 0) && (is_decided state.shape 0 || length state.committed == budget)

  -- seat 0 claims and commits in turn from this state on, until it is settled
  pub data Still (budget : ℕ) : TreeState S → List TreeEvent → Type 0 where
    settled : (state : TreeState S) → is_settled budget state ≡ true → Still budget state []
    step : (state : TreeState S) (node : ℕ) (counts : List ℕ) (events : List TreeEvent) → is_settled budget state ≡ false →
        is_legal budget state (claim 0 node) ≡ true → is_legal budget (after branches state (claim 0 node)) (commit 0 node counts) ≡ true →
        Still budget (after branches (after branches state (claim 0 node)) (commit 0 node counts)) events →
        Still budget state (claim 0 node ∷ commit 0 node counts ∷ events)

  -- the still run of a root and a budget
  abbrev pub IsStillRun : ℕ → S → List TreeEvent → Type 0
  IsStillRun budget root journal = Still budget (start root) journal
