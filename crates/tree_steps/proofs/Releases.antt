-- The queue and the held nodes after a release.
use Rattle.std.proofs.Common.{◌≡◌, ℕ, Bool, true, false, ◌==◌, ◌||◌, List, [], ◌∷◌, length, All, IsPermutation, refl, sym, ap, subst, ◌∙◌, nat_eq, slice_index_or}
use Rattle.std.specs.List.{list_any, Contains}
use Rattle.std.proofs.lemmas.Bool.{and_parts, and_from, and_right, or_right, or_left, or_from, or_parts, eqb-true, eqb-false, lt-ltb}
use Rattle.std.proofs.lemmas.List.Elements.{All-head, All-tail, All-cons, All-nil, All-contains_itself, recursion_from_All}
use Rattle.std.proofs.lemmas.List.Folds.{list_any_at}
use Rattle.std.proofs.lemmas.List.Sorted.{list_any-IsPermutation, All-permutation, IsPermutation-map}
use Rattle.std.proofs.lemmas.Cmp.{nat_eq_equiv}
use Rattle.std.proofs.lemmas.Map.Keys.{IsDistinct-IsPermutation, IsDistinct-cons}
use Rattle.tree_runs.specs.Marks.{is_relevant}
use Rattle.tree_runs.specs.States.{TreeState, after, release, without_seat}
use Rattle.tree_runs.specs.Best.{is_open, is_eligible}
use Rattle.tree_queue.specs.declared.entry.Entry.{Entry}
use Rattle.tree_steps.specs.Trees.{has_node, nodes_of, IsEntryOf, FitsQueue, IsRegular}
use Rattle.tree_steps.proofs.BestEntries.{same_number}

-- where the seat is the only one to hold the node, and holds no other, another node is held after just where it is before
pub others_held : (seat node other : ℕ) (held : List (ℕ × ℕ)) → All (λ pair. (pair.0 == seat) ≡ (pair.1 == node)) held → (node == other) ≡ false →
    list_any (λ pair. pair.1 == other) (without_seat seat held) ≡ list_any (λ pair. pair.1 == other) held
others_held seat node other [] all n = refl
others_held seat node other (pair ∷ held) all n =
    go (pair.0 == seat) refl (All-head (λ p. (p.0 == seat) ≡ (p.1 == node)) pair held all) (others_held seat node other held (All-tail (λ p. (p.0 == seat) ≡ (p.1 == node)) pair held all) n)
  where
    go : (v : Bool) → (pair.0 == seat) ≡ v → (pair.0 == seat) ≡ (pair.1 == node) → list_any (λ p. p.1 == other) (without_seat seat held) ≡ list_any (λ p. p.1 == other) held →
        list_any (λ p. p.1 == other) (without_seat seat (pair ∷ held)) ≡ list_any (λ p. p.1 == other) (pair ∷ held)
    go true e same rest = let same_node : pair.1 ≡ node = eqb-true _ _ (sym same ∙ e) in rw (e, same_node, n) rest
    go false e same rest = rw e (ap (λ b. pair.1 == other || b) rest)

-- and the node itself no more
none_held : (seat node : ℕ) (held : List (ℕ × ℕ)) → All (λ pair. (pair.0 == seat) ≡ (pair.1 == node)) held → list_any (λ pair. pair.1 == node) (without_seat seat held) ≡ false
none_held seat node [] all = refl
none_held seat node (pair ∷ held) all =
    go (pair.0 == seat) refl (All-head (λ p. (p.0 == seat) ≡ (p.1 == node)) pair held all) (none_held seat node held (All-tail (λ p. (p.0 == seat) ≡ (p.1 == node)) pair held all))
  where
    go : (v : Bool) → (pair.0 == seat) ≡ v → (pair.0 == seat) ≡ (pair.1 == node) → list_any (λ p. p.1 == node) (without_seat seat held) ≡ false → list_any (λ p. p.1 == node) (without_seat seat (pair ∷ held)) ≡ false
    go true e same rest = rw e rest
    go false e same rest = rw e (or_from (pair.1 == node) _ (sym same ∙ e) rest)

-- nodes that no entry is of are unequal
pub unequal_nodes : (node : ℕ) (entries : List Entry) → has_node node entries ≡ false → All (λ y. nat_eq node y ≡ false) (nodes_of entries)
unequal_nodes node [] h = All-nil (λ y. nat_eq node y ≡ false)
unequal_nodes node (entry ∷ entries) h =
    let both = or_parts (entry.node == node) (has_node node entries) h in
    All-cons (λ y. nat_eq node y ≡ false) entry.node (nodes_of entries) (nat_eq_equiv.symm node entry.node ∙ both.0) (unequal_nodes node entries both.1)

module _ {S : Type 0} (state : TreeState S) (budget : ℕ) (regular : IsRegular state budget) (seat node : ℕ) (holds : Contains state.held (seat, node)) where
  -- each holding is of the seat just where it is of the node
  pub alone : All (λ pair. (pair.0 == seat) ≡ (pair.1 == node)) state.held
  alone k d l =
      let there = All-contains_itself state.held k d l in
      let pair : ℕ × ℕ = slice_index_or state.held k d in
      by_seat pair there (pair.0 == seat) refl (pair.1 == node) refl
    where
      by_seat : (pair : ℕ × ℕ) → Contains state.held pair → (v : Bool) → (pair.0 == seat) ≡ v → (w : Bool) → (pair.1 == node) ≡ w → (pair.0 == seat) ≡ (pair.1 == node)
      by_seat pair there true e true f = e ∙ sym f
      by_seat pair there false e false f = e ∙ sym f
      by_seat pair there true e false f =
          let same_seat : pair.0 ≡ seat = eqb-true _ _ e in
          let other : Contains state.held (seat, pair.1) = subst (λ s. Contains state.held (s, pair.1)) same_seat there in
          absurd (eqb-false _ _ f (regular.one_node seat pair.1 node other holds))
      by_seat pair there false e true f =
          let same_node : pair.1 ≡ node = eqb-true _ _ f in
          let other : Contains state.held (pair.0, node) = subst (λ n. Contains state.held (pair.0, n)) same_node there in
          absurd (eqb-false _ _ e (regular.one_seat pair.0 seat node other holds))

  node_held : list_any (λ pair. pair.1 == node) state.held ≡ true
  node_held = list_any_at (λ pair. pair.1 == node) state.held holds.0 (seat, node) holds.1 (rw holds.2 (same_number node))

  pub closed_held : is_open state node ≡ false
  closed_held = rw node_held (and_right _ _ refl)

  module _ (branches : S → List (ℕ × List S)) where
    pub open_others : (other : ℕ) → (node == other) ≡ false → is_open (after branches state (release seat node)) other ≡ is_open state other
    unfolding after
    open_others other n = rw (others_held seat node other state.held alone n) refl

    pub open_released : is_open (after branches state (release seat node)) node ≡ true
    unfolding after
    open_released = rw (none_held seat node state.held alone, regular.held_uncommitted seat node holds) (and_from _ _ (and_from _ _ (lt-ltb node (length state.nodes) (regular.held_stands seat node holds)) refl) refl)

    pub entries_released : (entries : List Entry) → All (IsEntryOf state) entries → All (IsEntryOf (after branches state (release seat node))) entries
    unfolding after
    entries_released entries all k d l = let e = all k d l in record { content = e.content; there = e.there; priority = e.priority; depth = e.depth }

    eligible_before : (other : ℕ) → (node == other) ≡ false → is_eligible (after branches state (release seat node)) other ≡ true → is_eligible state other ≡ true
    unfolding after
    eligible_before other n h =
        let now = after branches state (release seat node) in
        let both = and_parts (is_open now other) (is_relevant now.shape other) h in
        and_from (is_open state other) (is_relevant state.shape other) (sym (open_others other n) ∙ both.0) both.1

    -- a released node's entry comes back
    pub fits_released : (entry : Entry) (entries new : List Entry) → FitsQueue state entries → IsEntryOf state entry → entry.node ≡ node → IsPermutation (entry ∷ entries) new → FitsQueue (after branches state (release seat node)) new
    fits_released entry entries new fits described is_of put = record {
      are_open = λ other h. open_now other (entry.node == other) refl (moved other ∙ h);
      whole = λ other h. sym (moved other) ∙ whole_now other (entry.node == other) refl h;
      apart = IsDistinct-IsPermutation nat_eq nat_eq_equiv.symm (nodes_of (entry ∷ entries)) (nodes_of new) (IsPermutation-map (λ e. e.node) (entry ∷ entries) new put)
          (IsDistinct-cons nat_eq entry.node (nodes_of entries) (recursion_from_All (λ y. nat_eq entry.node y ≡ false) (nodes_of entries) (unequal_nodes entry.node entries missing)) fits.apart);
      described = All-permutation (IsEntryOf (after branches state (release seat node))) (entry ∷ entries) new put (entries_released (entry ∷ entries) (All-cons (IsEntryOf state) entry entries described fits.described));
    }
      where
        moved : (other : ℕ) → (entry.node == other || has_node other entries) ≡ has_node other new
        moved other = list_any-IsPermutation (λ e. e.node == other) (entry ∷ entries) new put

        open_now : (other : ℕ) (v : Bool) → (entry.node == other) ≡ v → (entry.node == other || has_node other entries) ≡ true → is_open (after branches state (release seat node)) other ≡ true
        open_now other true e h = let same : node ≡ other = sym is_of ∙ eqb-true _ _ e in subst (λ n. is_open (after branches state (release seat node)) n ≡ true) same open_released
        open_now other false e h = open_others other (rw is_of at e) ∙ fits.are_open other (rw e at h)

        whole_now : (other : ℕ) (v : Bool) → (entry.node == other) ≡ v → is_eligible (after branches state (release seat node)) other ≡ true → (entry.node == other || has_node other entries) ≡ true
        whole_now other true e h = or_left (entry.node == other) _ e
        whole_now other false e h = or_right (entry.node == other) _ (fits.whole other (eligible_before other (rw is_of at e) h))

        missing : has_node entry.node entries ≡ false
        missing = go (has_node entry.node entries) refl
          where
            go : (v : Bool) → has_node entry.node entries ≡ v → has_node entry.node entries ≡ false
            go true h = absurd (let opened : is_open state node ≡ true = subst (λ n. is_open state n ≡ true) is_of (fits.are_open entry.node h) in let closed = closed_held in cc)
            go false h = h
