-- The best entry of a queue is of the best node.
use Rattle.std.proofs.Common.{◌≡◌, ◌⊎◌, ℕ, suc, ◌+◌, ◌<◌, Bool, true, false, not, ◌==◌, ◌||◌, List, [], ◌∷◌, length, Some, All, refl, sym, ap, subst, ◌∙◌, arith, slice_get, slice_index_or, inl, inr, add-zero}
use mathlib.Core.Logic.{⊎_elim}
use Rattle.std.specs.declared.cmp.Ordering.{Ordering}
use Rattle.std.specs.declared.cmp.Ordering.TheVariants.{Less, Equal, Greater}
use Rattle.std.specs.Ordering.{ordering_reverse, nat_cmp, is_lt}
use Rattle.std.specs.Cmp.{IsTotalOrder}
use Rattle.std.proofs.lemmas.Bool.{and_from, eqb-true, eqb-false}
use Rattle.std.proofs.lemmas.Cmp.{nat_cmp_total, on_total, then_total, back_total}
use Rattle.std.proofs.lemmas.Option.{slice_get_within, get_or_from_slice_get}
use Rattle.std.proofs.lemmas.List.Folds.{list_any_at}
use Rattle.std.proofs.lemmas.List.Elements.{All-head, All-tail}
use Rattle.tree_runs.specs.Shapes.{nodes_count}
use Rattle.tree_runs.specs.Marks.{is_relevant}
use Rattle.tree_runs.specs.Addresses.{address_of}
use Rattle.tree_runs.specs.States.{TreeNode, TreeState}
use Rattle.tree_runs.specs.Best.{address_cmp, rank_cmp, is_better, is_open, is_eligible, beats_all, is_best_with, is_best}
use Rattle.tree_queue.specs.declared.entry.Entry.{Entry}
use Rattle.tree_queue.specs.Orders.{entry_cmp, is_ahead}
use Rattle.tree_queue.specs.Queues.{IsBestOf}
use Rattle.tree_queue.proofs.EntryOrder.{address_cmp_total}
use Rattle.tree_queue.proofs.AddressLemmas.{addresses_differ, addresses_alike, both_equal, Some_inj}
use Rattle.tree_steps.specs.Trees.{has_node, IsEntryOf, FitsQueue, IsRegular}

pub rank_cmp_total : {S : Type 0} → IsTotalOrder (rank_cmp {S = S})
rank_cmp_total = then_total
    (on_total (λ node. node.priority) (back_total nat_cmp_total))
    (then_total (on_total (λ node. length node.address) nat_cmp_total) (on_total (λ node. node.address) address_cmp_total))

-- among entries that have a node, one is of it, and what holds of all holds of that one
pub found : (P : Entry → Type 0) (node : ℕ) (entries : List Entry) → All P entries → has_node node entries ≡ true → (entry : Entry) × P entry × (entry.node ≡ node)
found P node [] all h = cc
found P node (entry ∷ entries) all h = go (entry.node == node) refl (λ rest. found P node entries (All-tail P entry entries all) rest)
  where
    go : (v : Bool) → (entry.node == node) ≡ v → (has_node node entries ≡ true → (entry : Entry) × P entry × (entry.node ≡ node)) → (entry : Entry) × P entry × (entry.node ≡ node)
    go true e later = (entry, All-head P entry entries all, eqb-true _ _ e)
    go false e later = later (rw e at h)

front : (a b c : Bool) → a ≡ true → (a || b || c) ≡ true
front a b c h = grind arith

middle : (a b c : Bool) → b ≡ true → (a || b || c) ≡ true
middle a b c h = grind arith

back : (a b c : Bool) → c ≡ true → (a || b || c) ≡ true
back a b c h = grind arith

pub same_number : (n : ℕ) → (n == n) ≡ true
same_number n = go (n == n) refl
  where
    go : (v : Bool) → (n == n) ≡ v → (n == n) ≡ true
    go true e = e
    go false e = absurd (eqb-false n n e refl)

-- entries compare as their nodes do
module _ {S : Type 0} (state : TreeState S) (budget : ℕ) (regular : IsRegular state budget) where
  pub cmp_as_nodes : (f e : Entry) (x : IsEntryOf state f) (y : IsEntryOf state e) → entry_cmp state.shape f e ≡ rank_cmp x.content y.content
  cmp_as_nodes f e x y = rw (x.priority, y.priority, x.depth, y.depth, ← regular.addresses f.node x.content x.there, ← regular.addresses e.node y.content y.there) refl

  pub stands : (e : Entry) → IsEntryOf state e → e.node < nodes_count state.shape
  stands e x = let l = slice_get_within state.nodes e.node x.content x.there in omega (arith, l, regular.sizes)

  -- a node that isn't better than another is that node, or worse
  pub not_ahead : (f e : Entry) (x : IsEntryOf state f) (y : IsEntryOf state e) → is_ahead state.shape f e ≡ false → (f.node ≡ e.node) ⊎ (is_better y.content x.content ≡ true)
  not_ahead f e x y h = go (rank_cmp x.content y.content) refl (rw (cmp_as_nodes f e x y) at h)
    where
      go : (o : Ordering) → rank_cmp x.content y.content ≡ o → is_lt (rank_cmp x.content y.content) ≡ false → (f.node ≡ e.node) ⊎ (is_better y.content x.content ≡ true)
      go Less r h = absurd (let l : is_lt Less ≡ false = rw r at h in cc)
      go Equal r h =
          let second = (both_equal (nat_cmp y.content.priority x.content.priority) _ r).1 in
          let third = (both_equal (nat_cmp (length x.content.address) (length y.content.address)) (address_cmp x.content.address y.content.address) second).1 in
          let same : address_of state.shape f.node ≡ address_of state.shape e.node = sym (regular.addresses f.node x.content x.there) ∙ (addresses_alike x.content.address y.content.address third ∙ regular.addresses e.node y.content y.there) in
          inl (addresses_differ state.shape regular.is_shape f.node f.node e.node (omega arith) (stands f x) (stands e y) same)
      go Greater r h = inr (ap is_lt (rank_cmp_total.antisymm y.content x.content ∙ ap ordering_reverse r))

  -- the rivals of a node, from a number on, are beaten where each is it, ineligible or worse
  beats_from : (node : ℕ) (content : TreeNode S) (number : ℕ) (rivals : List (TreeNode S)) →
      ((k : ℕ) (rival : TreeNode S) → slice_get rivals k ≡ Some rival → (number + k == node || not (is_eligible state (number + k)) || is_better content rival) ≡ true) →
      beats_all state node content number rivals ≡ true
  beats_from node content number [] each = refl
  beats_from node content number (rival ∷ rivals) each =
      and_from _ _ (rw add-zero at (each 0 rival refl)) (beats_from node content (suc number) rivals (λ k r h.
      let same : number + suc k ≡ suc number + k = omega arith in
      subst (λ n. (n == node || not (is_eligible state n) || is_better content r) ≡ true) same (each (suc k) r h)))

  module _ (entries : List Entry) (fits : FitsQueue state entries) where
    -- where no entry is left, no node is eligible
    pub none_eligible : entries ≡ [] → (node : ℕ) → is_eligible state node ≡ false
    none_eligible e node = go (is_eligible state node) refl
      where
        go : (v : Bool) → is_eligible state node ≡ v → is_eligible state node ≡ false
        go true h = absurd (let has : has_node node [] ≡ true = subst (λ es. has_node node es ≡ true) e (fits.whole node h) in cc)
        go false h = h

    module _ (best : Entry) (first : slice_get entries 0 ≡ Some best) (relevant : is_relevant state.shape best.node ≡ true) (ahead : IsBestOf state.shape entries best) where
      inside : 0 < length entries
      inside = slice_get_within entries 0 best first

      is_first : slice_index_or entries 0 best ≡ best
      is_first = get_or_from_slice_get entries 0 best best first

      pub best_described : IsEntryOf state best
      best_described = subst (IsEntryOf state) is_first (fits.described 0 best inside)

      best_there : has_node best.node entries ≡ true
      best_there = list_any_at (λ e. e.node == best.node) entries 0 best inside (rw is_first (same_number best.node))

      pub best_open : is_open state best.node ≡ true
      best_open = fits.are_open best.node best_there

      beaten : (other : ℕ) (rival : TreeNode S) → slice_get state.nodes other ≡ Some rival → (v : Bool) → is_eligible state other ≡ v → (other == best.node || not v || is_better best_described.content rival) ≡ true
      beaten other rival r false h = middle (other == best.node) true (is_better best_described.content rival) refl
      beaten other rival r true h =
          let P : Entry → Type 0 = λ e. IsEntryOf state e × (is_ahead state.shape e best ≡ false) in
          let f = found P other entries (λ k d l. (fits.described k d l, ahead k d l)) (fits.whole other h) in
          let x = f.1.0 in
          let here : slice_get state.nodes other ≡ Some x.content = subst (λ n. slice_get state.nodes n ≡ Some x.content) f.2 x.there in
          let same : x.content ≡ rival = Some_inj x.content rival (sym here ∙ r) in
          ⊎_elim
          (λ e. front (other == best.node) false (is_better best_described.content rival) (let same_node : other ≡ best.node = sym f.2 ∙ e in subst (λ n. (n == best.node) ≡ true) (sym same_node) (same_number best.node)))
          (λ b. back (other == best.node) false (is_better best_described.content rival) (subst (λ c. is_better best_described.content c ≡ true) same b))
          (not_ahead f.0 best x best_described f.1.1)

      -- the best entry's node is the best
      pub best_is_best : is_best state best.node ≡ true
      unfolding is_best
      best_is_best =
          subst (λ o. is_best_with state best.node o ≡ true) (sym best_described.there)
          (and_from (is_eligible state best.node) _ (and_from (is_open state best.node) (is_relevant state.shape best.node) best_open relevant)
          (beats_from best.node best_described.content 0 state.nodes (λ k rival h.
          let same : 0 + k ≡ k = omega arith in
          subst (λ n. (n == best.node || not (is_eligible state n) || is_better best_described.content rival) ≡ true) (sym same) (beaten k rival h (is_eligible state k) refl))))
