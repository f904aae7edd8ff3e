-- The queue after entries were dropped, and after a claim.
use Rattle.std.proofs.Common.{◌≡◌, ℕ, Bool, true, false, ◌==◌, ◌||◌, List, [], ◌∷◌, ◌++◌, All, IsPermutation, refl, sym, subst, ◌∙◌, nat_eq}
use Rattle.std.specs.List.{IsDistinct}
use Rattle.std.proofs.lemmas.Bool.{and_parts, and_from, and_right, or_right, or_from, eqb-true}
use Rattle.std.proofs.lemmas.Cmp.{nat_eq_equiv}
use Rattle.std.proofs.lemmas.List.{map-append}
use Rattle.std.proofs.lemmas.List.Elements.{All-head, All-tail, All-from_recursion}
use Rattle.std.proofs.lemmas.List.Folds.{list_any-append}
use Rattle.std.proofs.lemmas.List.Sorted.{IsPermutation-map, list_any-IsPermutation, All-permutation}
use Rattle.std.proofs.lemmas.Map.Keys.{IsDistinct-IsPermutation, IsDistinct-head, IsDistinct-tail}
use Rattle.tree_runs.specs.Marks.{is_relevant}
use Rattle.tree_runs.specs.States.{TreeState, after, claim}
use Rattle.tree_runs.specs.Best.{is_open, is_eligible}
use Rattle.tree_queue.specs.declared.entry.Entry.{Entry}
use Rattle.tree_queue.specs.Queues.{DropsIrrelevant}
use Rattle.tree_steps.specs.Trees.{has_node, nodes_of, IsEntryOf, FitsQueue}

-- entries of irrelevant nodes have no relevant one
none_relevant : {S : Type 0} (state : TreeState S) (dropped : List Entry) (node : ℕ) → All (λ entry. is_relevant state.shape entry.node ≡ false) dropped → is_relevant state.shape node ≡ true → has_node node dropped ≡ false
none_relevant state [] node all h = refl
none_relevant state (entry ∷ dropped) node all h =
    go (entry.node == node) refl (All-head (λ e. is_relevant state.shape e.node ≡ false) entry dropped all) (none_relevant state dropped node (All-tail (λ e. is_relevant state.shape e.node ≡ false) entry dropped all) h)
  where
    go : (v : Bool) → (entry.node == node) ≡ v → is_relevant state.shape entry.node ≡ false → has_node node dropped ≡ false → (entry.node == node || has_node node dropped) ≡ false
    go true e f rest = absurd (let same = eqb-true _ _ e in cc)
    go false e f rest = rw (e, rest) refl

distinct_right : (xs ys : List ℕ) → IsDistinct nat_eq (xs ++ ys) → IsDistinct nat_eq ys
distinct_right [] ys d = d
distinct_right (x ∷ xs) ys d = distinct_right xs ys (IsDistinct-tail nat_eq x (xs ++ ys) d)

second_of : (a b : Bool) → a ≡ false → (a || b) ≡ true → b ≡ true
second_of a b h e = rw h at e

pub All-append-right : {X : Type 0} (P : X → Type 0) (xs ys : List X) → All P (xs ++ ys) → All P ys
All-append-right P [] ys all = all
All-append-right P (x ∷ xs) ys all = All-append-right P xs ys (All-tail P x (xs ++ ys) all)

-- entries of irrelevant nodes may be dropped
pub fits_dropped : {S : Type 0} (state : TreeState S) (old new : List Entry) → FitsQueue state old → DropsIrrelevant state.shape old new → FitsQueue state new
fits_dropped {S = S} state old new fits drops =
    let gone = drops.dropped in
    let all_described = All-permutation (IsEntryOf state) old (gone ++ new) drops.parts fits.described in
    let moved : (node : ℕ) → has_node node old ≡ (has_node node gone || has_node node new) = λ node.
    list_any-IsPermutation (λ e. e.node == node) old (gone ++ new) drops.parts ∙ list_any-append (λ e. e.node == node) gone new in
    let moved_nodes = IsPermutation-map (λ e. e.node) old (gone ++ new) drops.parts in
    record {
      are_open = λ node h. fits.are_open node (moved node ∙ or_right (has_node node gone) (has_node node new) h);
      whole = λ node h.
          let relevant = (and_parts _ _ h).1 in
          second_of (has_node node gone) (has_node node new) (none_relevant state gone node drops.irrelevant relevant) (sym (moved node) ∙ fits.whole node h);
      apart = distinct_right (nodes_of gone) (nodes_of new) (subst (IsDistinct nat_eq) (map-append (λ e. e.node) gone new) (IsDistinct-IsPermutation nat_eq nat_eq_equiv.symm (nodes_of old) (nodes_of (gone ++ new)) moved_nodes fits.apart));
      described = All-append-right (IsEntryOf state) gone new all_described;
    }

-- the node of the first of different entries is none of the others
pub first_node_alone : (first : Entry) (rest : List Entry) → IsDistinct nat_eq (nodes_of (first ∷ rest)) → has_node first.node rest ≡ false
first_node_alone first rest d = alone first.node rest (All-from_recursion (λ y. nat_eq first.node y ≡ false) (nodes_of rest) (IsDistinct-head nat_eq first.node (nodes_of rest) d))
  where
    alone : (node : ℕ) (rest : List Entry) → All (λ y. nat_eq node y ≡ false) (nodes_of rest) → has_node node rest ≡ false
    alone node [] a = refl
    alone node (entry ∷ rest) a =
        or_from (entry.node == node) (has_node node rest) (nat_eq_equiv.symm entry.node node ∙ All-head (λ y. nat_eq node y ≡ false) entry.node (nodes_of rest) a)
        (alone node rest (All-tail (λ y. nat_eq node y ≡ false) entry.node (nodes_of rest) a))

module _ {S : Type 0} (branches : S → List (ℕ × List S)) (state : TreeState S) (seat node : ℕ) where
  pub open_after_claim : (other : ℕ) → (node == other) ≡ false → is_open (after branches state (claim seat node)) other ≡ is_open state other
  unfolding after
  open_after_claim other n = rw n refl

  pub closed_after_claim : (other : ℕ) → (node == other) ≡ true → is_open (after branches state (claim seat node)) other ≡ false
  unfolding after
  closed_after_claim other e = rw e (and_right _ _ refl)

  pub entries_after_claim : (entries : List Entry) → All (IsEntryOf state) entries → All (IsEntryOf (after branches state (claim seat node))) entries
  unfolding after
  entries_after_claim entries all k d l = let e = all k d l in record { content = e.content; there = e.there; priority = e.priority; depth = e.depth }

  eligible_from : (other : ℕ) (v : Bool) → (node == other) ≡ v → is_eligible (after branches state (claim seat node)) other ≡ true → ((node == other) ≡ false) × (is_eligible state other ≡ true)
  unfolding after
  eligible_from other true e h =
      let now = after branches state (claim seat node) in
      let open_now : is_open now other ≡ true = (and_parts (is_open now other) (is_relevant now.shape other) h).0 in
      absurd (let closed = closed_after_claim other e in cc)
  eligible_from other false e h =
      let now = after branches state (claim seat node) in
      let both = and_parts (is_open now other) (is_relevant now.shape other) h in
      (e, and_from (is_open state other) (is_relevant state.shape other) (sym (open_after_claim other e) ∙ both.0) both.1)

  pub eligible_after_claim : (other : ℕ) → is_eligible (after branches state (claim seat node)) other ≡ true → ((node == other) ≡ false) × (is_eligible state other ≡ true)
  eligible_after_claim other h = eligible_from other (node == other) refl h

-- a claimed node's entry goes
pub fits_claimed : {S : Type 0} (branches : S → List (ℕ × List S)) (state : TreeState S) (seat : ℕ) (first : Entry) (entries rest : List Entry) → FitsQueue state entries → IsPermutation entries (first ∷ rest) → FitsQueue (after branches state (claim seat first.node)) rest
fits_claimed {S = S} branches state seat first entries rest fits taken =
    let moved : (other : ℕ) → has_node other entries ≡ (first.node == other || has_node other rest) = λ other. list_any-IsPermutation (λ e. e.node == other) entries (first ∷ rest) taken in
    let apart = IsDistinct-IsPermutation nat_eq nat_eq_equiv.symm (nodes_of entries) (nodes_of (first ∷ rest)) (IsPermutation-map (λ e. e.node) entries (first ∷ rest) taken) fits.apart in
    let alone = first_node_alone first rest apart in
    record {
      are_open = λ other h. by_same other (first.node == other) refl h (fits.are_open other (moved other ∙ or_right (first.node == other) (has_node other rest) h)) alone;
      whole = λ other h.
          let before = eligible_after_claim branches state seat first.node other h in
          second_of (first.node == other) (has_node other rest) before.0 (sym (moved other) ∙ fits.whole other before.1);
      apart = IsDistinct-tail nat_eq first.node (nodes_of rest) apart;
      described = entries_after_claim branches state seat first.node rest (All-tail (IsEntryOf state) first rest (All-permutation (IsEntryOf state) entries (first ∷ rest) taken fits.described));
    }
  where
    by_same : (other : ℕ) (v : Bool) → (first.node == other) ≡ v → has_node other rest ≡ true → is_open state other ≡ true → has_node first.node rest ≡ false → is_open (after branches state (claim seat first.node)) other ≡ true
    by_same other true e h o alone = absurd (let same = eqb-true _ _ e in let x : has_node first.node rest ≡ true = rw same h in cc)
    by_same other false e h o alone = open_after_claim branches state seat first.node other e ∙ o
