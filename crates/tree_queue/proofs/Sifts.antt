-- One step of moving an item up or down a heap.
use Rattle.std.proofs.Common.{◌≡◌, ℕ, zero, suc, ◌+◌, ◌/◌, ◌<◌, ◌≤◌, Bool, true, false, List, [], ◌∷◌, ◌++◌, length, refl, sym, ◌∙◌, arith, slice_index_or, map, length-append}
use Rattle.std.specs.Cmp.{IsStrictWeakOrder}
use Rattle.std.specs.List.{SwappedAt}
use Rattle.std.proofs.lemmas.List.{get_or_append_left, get_or-map, length-map}
use Rattle.std.proofs.lemmas.Bool.{eqb-true, eqb-false, ltb-true, ltb-false}
use lib.Dec.{eqb, ltb}
use Rattle.tree_queue.specs.Heaps.{parent, IsHeap, IsHeapButUp, IsHeapAround}

-- two places are one, or they differ
pub same_or : {P : Type 0} (a b : ℕ) → (a ≡ b → P) → ((a ≡ b → ⊥) → P) → P
same_or {P} a b y n = go (eqb a b) refl
  where
    go : (v : Bool) → eqb a b ≡ v → P
    go true e = y (eqb-true _ _ e)
    go false e = n (eqb-false _ _ e)

positive_of : (a : ℕ) → (a ≡ 0 → ⊥) → 0 < a
positive_of zero h = absurd (h refl)
positive_of (suc a) h = omega arith

differ : (a b : ℕ) → a < b → a ≡ b → ⊥
differ a b l e = absurd (omega (arith, l, e))

differ_back : (a b : ℕ) → a < b → b ≡ a → ⊥
differ_back a b l e = absurd (omega (arith, l, e))

-- a place that isn't the last one stands before it
below_end : (j n : ℕ) → j < n + 1 → (j ≡ n → ⊥) → j < n
below_end j n l ne = go (ltb j n) refl
  where
    go : (v : Bool) → ltb j n ≡ v → j < n
    go true e = ltb-true _ _ e
    go false e = absurd (ne (omega (arith, l, ltb-false _ _ e)))

-- of two neighbours the one that isn't the left one
right_of : (s left : ℕ) → left ≤ s → s ≤ left + 1 → (s ≡ left → ⊥) → s ≡ left + 1
right_of s left a b n = go (ltb left s) refl
  where
    go : (v : Bool) → ltb left s ≡ v → s ≡ left + 1
    go true e = omega (arith, ltb-true _ _ e, b)
    go false e = absurd (n (omega (arith, ltb-false _ _ e, a)))

module _ {A : Type 0} (lt : A → A → Bool) (o : IsStrictWeakOrder lt) where
  never_self : (x : A) → lt x x ≡ false
  never_self x = go (lt x x) refl
    where
      go : (v : Bool) → lt x x ≡ v → lt x x ≡ false
      go true e = o.one_way x x e
      go false e = e

  -- nothing in a heap comes before its first item
  pub first_of_heap : (xs : List A) → IsHeap lt xs → (n i : ℕ) (d : A) → i ≤ n → i < length xs → lt (slice_index_or xs i d) (slice_index_or xs 0 d) ≡ false
  first_of_heap xs h zero i d a b = let z : i ≡ 0 = omega (arith, a) in rw z (never_self _)
  first_of_heap xs h (suc n) i d a b = same_or i 0 (λ z. rw z (never_self _)) (λ nz.
      let pos : 0 < i = positive_of i nz in
      let up = first_of_heap xs h n (parent i) d (omega (arith, a, pos)) (omega (arith, b, pos)) in
      o.chain _ _ _ (h i d pos b) up)

  -- the item at the hole goes up, since it comes before the one above it
  pub up_step : (xs ys : List A) (hole : ℕ) → SwappedAt xs ys hole (parent hole) → length ys ≡ length xs → 0 < hole → hole < length xs
      → ((d : A) → lt (slice_index_or xs hole d) (slice_index_or xs (parent hole) d) ≡ true) → IsHeapButUp lt xs hole → IsHeapButUp lt ys (parent hole)
  up_step xs ys h sw long pos inside before heap = record { edges = edges; gap = gap }
    where
      p : ℕ
      p = parent h

      edges : (j : ℕ) (d : A) → 0 < j → j < length ys → (j ≡ parent h → ⊥) → lt (slice_index_or ys j d) (slice_index_or ys (parent j) d) ≡ false
      edges j d jp jl np = same_or j h
          (λ jh. rw (jh, sw.0 d, sw.1 d) (o.one_way _ _ (before d)))
          (λ njh. let at = sw.2 j d njh np in
          same_or (parent j) h
          (λ ph. rw (at, ph, sw.0 d) (heap.gap j d pos jp (rw long at jl) ph))
          (λ nph. same_or (parent j) (parent h)
          (λ pp. rw (at, pp, sw.1 d) (o.chain _ _ _ (rw pp at (heap.edges j d jp (rw long at jl) njh)) (o.one_way _ _ (before d))))
          (λ npp. rw (at, sw.2 (parent j) d nph npp) (heap.edges j d jp (rw long at jl) njh))))

      gap : (j : ℕ) (d : A) → 0 < parent h → 0 < j → j < length ys → parent j ≡ parent h → lt (slice_index_or ys j d) (slice_index_or ys (parent (parent h)) d) ≡ false
      gap j d pp jp jl pj =
          let q = parent (parent h) in
          let less : q < parent h = omega (arith, pp) in
          let high : parent h < h = omega (arith, pos) in
          let at_q = sw.2 q d (differ q h (omega (arith, less, high))) (differ q (parent h) less) in
          let top = heap.edges (parent h) d pp (omega (arith, high, inside)) (differ (parent h) h high) in
          same_or j h
          (λ jh. rw (jh, sw.0 d, at_q) top)
          (λ njh. same_or j (parent h)
          (λ jp2. absurd (omega (arith, jp2, pj, jp)))
          (λ njp. rw (sw.2 j d njh njp, at_q) (o.chain _ _ _ (rw pj at (heap.edges j d jp (rw long at jl) njh)) top)))

  -- the item at the hole does not come before the one above it
  pub up_done : (xs : List A) (hole : ℕ) → ((d : A) → lt (slice_index_or xs hole d) (slice_index_or xs (parent hole) d) ≡ false) → IsHeapButUp lt xs hole → IsHeap lt xs
  up_done xs h after heap j d jp jl = same_or j h (λ e. rw e (after d)) (λ n. heap.edges j d jp jl n)

  -- the hole is at the top
  pub up_top : (xs : List A) (hole : ℕ) → hole ≡ 0 → IsHeapButUp lt xs hole → IsHeap lt xs
  up_top xs h z heap j d jp jl = heap.edges j d jp jl (λ e. absurd (omega (arith, e, z, jp)))

  -- the better one below the hole goes up into it
  pub around_step : (xs ys : List A) (hole below : ℕ) → SwappedAt xs ys hole below → length ys ≡ length xs → parent below ≡ hole → 0 < below → below < length xs
      → ((s : ℕ) (d : A) → parent s ≡ hole → 0 < s → s < length xs → lt (slice_index_or xs s d) (slice_index_or xs below d) ≡ false)
      → IsHeapAround lt xs hole → IsHeapAround lt ys below
  around_step xs ys h b sw long pb bp bl best heap = record { edges = edges; gap = gap }
    where
      high : h < b
      high = omega (arith, pb, bp)

      edges : (j : ℕ) (d : A) → 0 < j → j < length ys → (j ≡ b → ⊥) → (parent j ≡ b → ⊥) → lt (slice_index_or ys j d) (slice_index_or ys (parent j) d) ≡ false
      edges j d jp jl njb nb = same_or j h
          (λ jh.
          let up : parent h < h = omega (arith, jh, jp) in
          rw (jh, sw.0 d, sw.2 (parent h) d (differ (parent h) h up) (differ (parent h) b (omega (arith, up, high)))) (heap.gap b d (omega (arith, jh, jp)) bp bl pb))
          (λ njh. let at = sw.2 j d njh njb in
          same_or (parent j) h
          (λ ph. rw (at, ph, sw.0 d) (best j d ph jp (rw long at jl)))
          (λ nph. rw (at, sw.2 (parent j) d nph nb) (heap.edges j d jp (rw long at jl) njh nph)))

      gap : (j : ℕ) (d : A) → 0 < b → 0 < j → j < length ys → parent j ≡ b → lt (slice_index_or ys j d) (slice_index_or ys (parent b) d) ≡ false
      gap j d _ jp jl pj =
          let more : b < j = omega (arith, pj, jp) in
          rw (pb, sw.2 j d (differ_back h j (omega (arith, high, more))) (differ_back b j more), sw.0 d) (rw pj at (heap.edges j d jp (rw long at jl) (differ_back h j (omega (arith, high, more))) (λ z. differ h b high (sym z ∙ pj))))

  -- nothing stands below the hole
  pub around_end : (xs : List A) (hole : ℕ) → length xs / 2 ≤ hole → IsHeapAround lt xs hole → IsHeapButUp lt xs hole
  around_end xs h over heap = record {
    edges = λ j d jp jl n. heap.edges j d jp jl n (λ p. absurd (omega (arith, over, p, jp, jl)));
    gap = heap.gap;
  }

  -- an item goes to the end of a heap
  pub pushed : (xs : List A) (x : A) → IsHeap lt xs → IsHeapButUp lt (xs ++ x ∷ []) (length xs)
  pushed xs x heap = record { edges = edges; gap = gap }
    where
      edges : (j : ℕ) (d : A) → 0 < j → j < length (xs ++ x ∷ []) → (j ≡ length xs → ⊥) → lt (slice_index_or (xs ++ x ∷ []) j d) (slice_index_or (xs ++ x ∷ []) (parent j) d) ≡ false
      edges j d jp jl n =
          let inside : j < length xs = below_end j (length xs) (omega (arith, jl, length-append xs (x ∷ []))) n in
          rw (get_or_append_left xs (x ∷ []) d j inside, get_or_append_left xs (x ∷ []) d (parent j) (omega (arith, inside, jp))) (heap j d jp inside)

      gap : (j : ℕ) (d : A) → 0 < length xs → 0 < j → j < length (xs ++ x ∷ []) → parent j ≡ length xs → lt (slice_index_or (xs ++ x ∷ []) j d) (slice_index_or (xs ++ x ∷ []) (parent (length xs)) d) ≡ false
      gap j d a jp jl pj = absurd (omega (arith, jl, pj, jp, length-append xs (x ∷ [])))

  -- the first of a heap is gone, and another item is in its place
  pub replaced : (xs ys : List A) → IsHeap lt xs → length ys ≤ length xs → ((k : ℕ) (d : A) → 0 < k → k < length ys → slice_index_or ys k d ≡ slice_index_or xs k d) → IsHeapAround lt ys 0
  replaced xs ys heap short same = record {
    edges = λ j d jp jl _ n. rw (same j d jp jl, same (parent j) d (positive_of _ n) (omega (arith, jp, jl))) (heap j d jp (omega (arith, jl, short)));
    gap = λ j d a. absurd (omega (arith, a));
  }

-- a heap of keys is one of what they stand for
pub heap_of_map : {A : Type 0} (lt : A → A → Bool) (f : ℕ → A) (keys : List ℕ) → IsHeap (λ x y. lt (f x) (f y)) keys → IsHeap lt (map f keys)
heap_of_map lt f keys heap j d jp jl =
    let inside : j < length keys = omega (arith, jl, length-map keys f) in
    rw (get_or-map f keys j 0 d inside, get_or-map f keys (parent j) 0 d (omega (arith, inside, jp))) (heap j 0 jp inside)

-- and the other way round
pub heap_of_keys : {A : Type 0} (lt : A → A → Bool) (f : ℕ → A) (keys : List ℕ) → IsHeap lt (map f keys) → IsHeap (λ x y. lt (f x) (f y)) keys
heap_of_keys lt f keys heap j d jp jl =
    let e = f d in
    let first = get_or-map f keys j d e jl in
    let second = get_or-map f keys (parent j) d e (omega (arith, jl, jp)) in
    rw (sym first, sym second) (heap j e jp (omega (arith, jl, length-map keys f)))

module _ {A : Type 0} (lt : A → A → Bool) (o : IsStrictWeakOrder lt) where
  -- the right one of two neighbours comes first
  pub right_first : (xs : List A) (left : ℕ) → ((d : A) → lt (slice_index_or xs (left + 1) d) (slice_index_or xs left d) ≡ true)
      → (s : ℕ) (d : A) → left ≤ s → s ≤ left + 1 → lt (slice_index_or xs s d) (slice_index_or xs (left + 1) d) ≡ false
  right_first xs left before s d a b = same_or s left
      (λ e. rw e (o.one_way _ _ (before d)))
      (λ n. let e : s ≡ left + 1 = right_of s left a b n in rw e (never_self lt o _))

  -- the right one of two neighbours does not come before the left one, where it is there
  pub left_first : (xs : List A) (left : ℕ) → ((d : A) → left + 1 < length xs → lt (slice_index_or xs (left + 1) d) (slice_index_or xs left d) ≡ false)
      → (s : ℕ) (d : A) → left ≤ s → s ≤ left + 1 → s < length xs → lt (slice_index_or xs s d) (slice_index_or xs left d) ≡ false
  left_first xs left after s d a b l = same_or s left
      (λ e. rw e (never_self lt o _))
      (λ n. let e : s ≡ left + 1 = right_of s left a b n in rw e (after d (rw e at l)))
