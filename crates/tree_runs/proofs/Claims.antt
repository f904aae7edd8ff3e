-- What a seat holds it has claimed, and priorities only fall downwards.
use Rattle.std.proofs.Common.{◌≡◌, ◌⊎◌, inl, inr, ℕ, zero, suc, ◌*◌, ◌/◌, ◌≤◌, true, List, [], ◌∷◌, ◌++◌, length, Option, Some, None, refl, sym, ap, ◌∙◌, arith}
use Rattle.std.specs.Prelude.{slice_get}
use Rattle.std.proofs.Math.Nat.{mul-le-mul_left}
use Rattle.tree_runs.specs.States.{TreeEvent, claim, commit, release, TreeNode, TreeState, root_priority, start, children_nodes, branch_nodes, after_commit, after, state_from, state_of}
use Rattle.tree_runs.specs.Runs.{is_holding}
use Rattle.tree_runs.specs.Soundness.{IsClaimedIn}
use Rattle.tree_runs.proofs.Lists.{below_or_past, slice_get-append, slice_get-append_past}
use Rattle.tree_runs.proofs.Holding.{claimed, given_back}

later_claim : (seat node : ℕ) (event : TreeEvent) (events : List TreeEvent) → IsClaimedIn seat node events → IsClaimedIn seat node (event ∷ events)
later_claim seat node event events h = record { before = event ∷ h.before; later = h.later; is = ap (λ es. event ∷ es) h.is }

first_claim : (seat node s n : ℕ) (events : List TreeEvent) → s ≡ seat → n ≡ node → IsClaimedIn seat node (claim s n ∷ events)
first_claim seat node s n events e f = record { before = []; later = events; is = ap (λ (x : ℕ). claim x n ∷ events) e ∙ ap (λ (x : ℕ). claim seat x ∷ events) f }

module _ {S : Type 0} (branches : S → List (ℕ × List S)) where
  commit_keeps : (state : TreeState S) (s n seat node : ℕ) (o : Option (TreeNode S)) → is_holding (after_commit branches state s n o) seat node ≡ true → is_holding state seat node ≡ true
  commit_keeps state s n seat node None h = (given_back s state.held seat node h).1
  commit_keeps state s n seat node (Some content) h = (given_back s state.held seat node h).1

  claimed_from : (journal : List TreeEvent) (state : TreeState S) (seat node : ℕ) → is_holding (state_from branches state journal) seat node ≡ true → (is_holding state seat node ≡ true) ⊎ IsClaimedIn seat node journal
  unfolding after
  claimed_from [] state seat node h = inl h
  claimed_from (claim s n ∷ events) state seat node h = elim (claimed_from events (record state { held = (s, n) ∷ state.held }) seat node h) [
    | inr later ↦ inr (later_claim seat node (claim s n) events later)
    | inl here ↦ elim (claimed s n state.held seat node here) [ inl new ↦ inr (first_claim seat node s n events new.0 new.1) | inr old ↦ inl old ]
  ]
  claimed_from (commit s n counts ∷ events) state seat node h = elim (claimed_from events (after_commit branches state s n (slice_get state.nodes n)) seat node h) [
    | inr later ↦ inr (later_claim seat node (commit s n counts) events later)
    | inl here ↦ inl (commit_keeps state s n seat node (slice_get state.nodes n) here)
  ]
  claimed_from (release s n ∷ events) state seat node h = elim (claimed_from events (after branches state (release s n)) seat node h) [
    | inr later ↦ inr (later_claim seat node (release s n) events later)
    | inl here ↦ inl (given_back s state.held seat node here).1
  ]

  -- what a seat holds it has claimed
  pub held_is_claimed : (root : S) (journal : List TreeEvent) (seat node : ℕ) → is_holding (state_of branches root journal) seat node ≡ true → IsClaimedIn seat node journal
  held_is_claimed root journal seat node h = elim (claimed_from journal (start root) seat node h) [ inl none ↦ absurd cc | inr found ↦ found ]

  -- ---- priorities

  abbrev IsBounded : List (TreeNode S) → Type 0
  IsBounded nodes = (n : ℕ) (content : TreeNode S) → slice_get nodes n ≡ Some content → content.priority ≤ root_priority

  smaller_share : (priority percent : ℕ) → percent ≤ 100 → priority * percent / 100 ≤ priority
  smaller_share priority percent h = omega (arith, mul-le-mul_left priority h)

  children_bounded : (content : TreeNode S) (alternative percent place : ℕ) (children : List S) → content.priority ≤ root_priority → percent ≤ 100 → IsBounded (children_nodes content alternative percent place children)
  children_bounded content alternative percent place [] low small n born e = absurd cc
  children_bounded content alternative percent place (child ∷ children) low small zero born e =
      let first : TreeNode S = record { address = content.address ++ (alternative, place) ∷ []; seen = child; priority = content.priority * percent / 100 } in
      let same : first ≡ born = cc in
      let is : content.priority * percent / 100 ≡ born.priority = ap (λ c. c.priority) same in
      let share = smaller_share content.priority percent small in
      omega (arith, is, share, low)
  children_bounded content alternative percent place (child ∷ children) low small (suc n) born e = children_bounded content alternative percent (suc place) children low small n born e

  append_bounded : (xs ys : List (TreeNode S)) → IsBounded xs → IsBounded ys → IsBounded (xs ++ ys)
  append_bounded xs ys a b n content e = elim (below_or_past (length xs) n) [
    | inl old ↦ a n content (sym (slice_get-append xs ys n old) ∙ e)
    | inr p ↦ b p.0 content (sym (slice_get-append_past xs ys p.0 n p.1) ∙ e)
  ]

  branches_bounded : (content : TreeNode S) (base : ℕ) (bs : List (ℕ × List S)) → content.priority ≤ root_priority → ((i percent : ℕ) (children : List S) → slice_get bs i ≡ Some (percent, children) → percent ≤ 100) →
      IsBounded (branch_nodes content base bs)
  branches_bounded content base [] low small = λ n born e. absurd cc
  branches_bounded content base (branch ∷ bs) low small =
      append_bounded (children_nodes content base branch.0 0 branch.1) (branch_nodes content (suc base) bs)
      (children_bounded content base branch.0 0 branch.1 low (small 0 branch.0 branch.1 refl))
      (branches_bounded content (suc base) bs low (λ i percent children e. small (suc i) percent children e))

  module _ (small : (seen : S) (i percent : ℕ) (children : List S) → slice_get (branches seen) i ≡ Some (percent, children) → percent ≤ 100) where
    commit_bounded : (state : TreeState S) (s n : ℕ) (o : Option (TreeNode S)) → slice_get state.nodes n ≡ o → IsBounded state.nodes → IsBounded (after_commit branches state s n o).nodes
    commit_bounded state s n None e h = h
    commit_bounded state s n (Some content) e h =
        append_bounded state.nodes (branch_nodes content 0 (branches content.seen)) h (branches_bounded content 0 (branches content.seen) (h n content e) (small content.seen))

    bounded_from : (journal : List TreeEvent) (state : TreeState S) → IsBounded state.nodes → IsBounded (state_from branches state journal).nodes
    unfolding after
    bounded_from [] state h = h
    bounded_from (claim s n ∷ events) state h = bounded_from events (record state { held = (s, n) ∷ state.held }) h
    bounded_from (commit s n counts ∷ events) state h = bounded_from events (after_commit branches state s n (slice_get state.nodes n)) (commit_bounded state s n (slice_get state.nodes n) refl h)
    bounded_from (release s n ∷ events) state h = bounded_from events (after branches state (release s n)) h

    -- no priority is greater than the root's
    pub priorities_bounded : (root : S) (journal : List TreeEvent) → IsBounded (state_of branches root journal).nodes
    priorities_bounded root journal = bounded_from journal (start root) (λ n content e. root_bounded n content e)
      where
        root_bounded : (n : ℕ) (content : TreeNode S) → slice_get (start root).nodes n ≡ Some content → content.priority ≤ root_priority
        root_bounded zero content e =
            let first : TreeNode S = record { address = []; seen = root; priority = root_priority } in
            let same : first ≡ content = cc in
            let is : root_priority ≡ content.priority = ap (λ c. c.priority) same in
            omega (arith, is)
        root_bounded (suc n) content e = absurd cc
