-- What a queue shows, after a change of its slab and of its keys.
use Rattle.std.proofs.Common.{◌≡◌, ℕ, ◌+◌, ◌<◌, ◌≤◌, Bool, true, false, List, [], ◌∷◌, ◌++◌, length, Option, Some, None, IsSome, unwrap_or, All, IsPermutation, refl, sym, ap, subst, ◌∙◌, arith, nat_eq, slice_index_or, length-append, slice_get, OnSome}
use Rattle.std.specs.List.{IsDistinct}
use Rattle.std.proofs.lemmas.Option.{slice_get_within, get_or_from_slice_get}
use Rattle.std.proofs.lemmas.List.{get_or-map, length-map, map-append}
use Rattle.std.proofs.lemmas.List.Elements.{All-head, All-tail, All-cons, All-append, All-map, All-nil, All-from_recursion, recursion_from_All}
use Rattle.std.proofs.lemmas.List.Sorted.{IsPermutation-map, IsPermutation-trans, IsPermutation-sym, IsPermutation-to_front, All-permutation, length_permutation}
use Rattle.std.proofs.lemmas.Map.Keys.{IsDistinct-IsPermutation, IsDistinct-head, IsDistinct-tail, IsDistinct-cons}
use Rattle.std.proofs.lemmas.Bool.{eqb-true, eqb-false}
use Rattle.std.proofs.lemmas.Cmp.{nat_eq_equiv}
use Rattle.tree_queue.proofs.EntryOrder.{keys_are_ordered}
use Rattle.slab.specs.Slab.{Slab, get, slab_len, Updates}
use Rattle.tree_runs.specs.Shapes.{TreeShape}
use Rattle.tree_queue.specs.declared.entry.Entry.{Entry}
use Rattle.tree_queue.specs.Heaps.{IsHeap, IsHeapButUp}
use Rattle.tree_queue.specs.Orders.{entry_at, no_entry, is_ahead, is_key_ahead, IsPlaced, IsKnown}
use Rattle.tree_queue.specs.Queues.{IsSound, entries_of, IsQueueOf}
use Rattle.tree_queue.proofs.Sifts.{heap_of_map, heap_of_keys, pushed}

-- no key is this one
abbrev pub Lacks : ℕ → List ℕ → Type 0
Lacks key keys = All (λ other. other ≡ key → ⊥) keys

-- a change at another key shows nothing
pub entries_of-kept : (old new : Slab Entry) (key : ℕ) (slot : Option Entry) → Updates old new key slot → (keys : List ℕ) → Lacks key keys → entries_of keys new ≡ entries_of keys old
entries_of-kept old new key slot u [] n = refl
entries_of-kept old new key slot u (other ∷ keys) n =
    let here = u.others other (All-head (λ o. o ≡ key → ⊥) other keys n) in
    let rest = entries_of-kept old new key slot u keys (All-tail (λ o. o ≡ key → ⊥) other keys n) in
    ap (λ x. unwrap_or x no_entry ∷ entries_of keys new) here ∙ ap (λ xs. entry_at old other ∷ xs) rest

-- a key that had nothing is none of those that have something
pub lacks_vacant : (entries : Slab Entry) (key : ℕ) → get entries key ≡ None → (keys : List ℕ) → All (λ k. IsSome (get entries k)) keys → Lacks key keys
lacks_vacant entries key v keys held i d l e = some_is_none (get entries key) (rw e at (held i d l)) v
  where
    some_is_none : (o : Option Entry) → IsSome o → o ≡ None → ⊥
    some_is_none None a b = cc
    some_is_none (Some x) a b = cc

-- the first of different keys is none of the others
pub lacks_first : (key : ℕ) (keys : List ℕ) → IsDistinct nat_eq (key ∷ keys) → Lacks key keys
lacks_first key keys d = lacks key keys (All-from_recursion (λ y. nat_eq key y ≡ false) keys (IsDistinct-head nat_eq key keys d))
  where
    lacks : (key : ℕ) (keys : List ℕ) → All (λ y. nat_eq key y ≡ false) keys → Lacks key keys
    lacks key keys all i e l same = eqb-false key (slice_index_or keys i e) (all i e l) (sym same)

-- keys that are not this one are unequal to it
unequal : (key : ℕ) (keys : List ℕ) → Lacks key keys → All (λ y. nat_eq key y ≡ false) keys
unequal key keys lacks i e l = go (nat_eq key (slice_index_or keys i e)) refl
  where
    go : (v : Bool) → nat_eq key (slice_index_or keys i e) ≡ v → nat_eq key (slice_index_or keys i e) ≡ false
    go true h = absurd (lacks i e l (sym (eqb-true _ _ h)))
    go false h = h

-- keys with entries that are placed are known
pub known_keys : (shape : TreeShape) (entries : Slab Entry) (keys : List ℕ) → All (λ k. IsSome (get entries k)) keys → All (IsPlaced shape) (entries_of keys entries) → All (IsKnown shape entries) keys
known_keys shape entries keys held placed i d l = record {
  held = held i d l;
  placed = rw (get_or-map (entry_at entries) keys i d no_entry l) at (placed i no_entry (omega (arith, l, length-map keys (entry_at entries))));
}

-- and the other way round
pub placed_entries : (shape : TreeShape) (entries : Slab Entry) (keys : List ℕ) → All (IsKnown shape entries) keys → All (IsPlaced shape) (entries_of keys entries)
placed_entries shape entries keys known = All-map (IsPlaced shape) (entry_at entries) keys (λ i d l. (known i d l).placed)

-- a heap of entries is one of their keys
pub keys_heap : (shape : TreeShape) (entries : Slab Entry) (keys : List ℕ) → IsHeap (is_ahead shape) (entries_of keys entries) → IsHeap (is_key_ahead shape entries) keys
keys_heap shape entries keys heap = heap_of_keys (is_ahead shape) (entry_at entries) keys heap

pub entries_heap : (shape : TreeShape) (entries : Slab Entry) (keys : List ℕ) → IsHeap (is_key_ahead shape entries) keys → IsHeap (is_ahead shape) (entries_of keys entries)
entries_heap shape entries keys heap = heap_of_map (is_ahead shape) (entry_at entries) keys heap

-- an entry got a new key, which went to the end
module _ (shape : TreeShape) (keys more last : List ℕ) (old new : Slab Entry) (key : ℕ) (entry : Entry) (capacity capacity' room : ℕ) where
  module _ (sound : IsSound keys capacity old room) (vacant : get old key ≡ None) (updates : Updates old new key (Some entry)) (pushed_is : more ≡ keys ++ key ∷ []) where
    new_key : Lacks key keys
    new_key = lacks_vacant old key vacant keys sound.held

    entry_there : entry_at new key ≡ entry
    entry_there = ap (λ o. unwrap_or o no_entry) updates.changed

    more_entries : entries_of more new ≡ entries_of keys old ++ entry ∷ []
    more_entries = ap (λ ks. entries_of ks new) pushed_is ∙ (map-append (entry_at new) keys (key ∷ []) ∙
        (ap (λ xs. xs ++ entry_at new key ∷ []) (entries_of-kept old new key (Some entry) updates keys new_key) ∙ ap (λ e. entries_of keys old ++ e ∷ []) entry_there))

    more_held : All (λ k. IsSome (get new k)) more
    more_held = subst (All (λ k. IsSome (get new k))) (sym pushed_is) (All-append (λ k. IsSome (get new k)) keys (key ∷ [])
        (λ i d l. rw (updates.others (slice_index_or keys i d) (new_key i d l)) (sound.held i d l))
        (All-cons (λ k. IsSome (get new k)) key [] (rw updates.changed refl) (All-nil (λ k. IsSome (get new k)))))

    -- the keys that go into the heap are known
    pub put_known : IsPlaced shape entry → IsQueueOf shape (entries_of keys old) → All (IsKnown shape new) more
    put_known placed queue = known_keys shape new more more_held (subst (All (IsPlaced shape)) (sym more_entries)
        (All-append (IsPlaced shape) (entries_of keys old) (entry ∷ []) queue.placed (All-cons (IsPlaced shape) entry [] placed (All-nil (IsPlaced shape)))))

    -- they are a heap but for the last
    pub put_heap : IsQueueOf shape (entries_of keys old) → IsHeapButUp (is_key_ahead shape new) more (length keys)
    put_heap queue = rw pushed_is (pushed (is_key_ahead shape new) (keys_are_ordered shape new) keys key (keys_heap shape new keys (rw (entries_of-kept old new key (Some entry) updates keys new_key) queue.heap)))

    -- what the queue keeps
    pub put_sound : IsPermutation more last → slab_len new ≡ slab_len old + 1 → length keys + 1 ≤ room → capacity' ≡ capacity → new.capacity ≡ old.capacity → IsSound last capacity' new room
    put_sound same count fits c c2 =
        let long : length last ≡ length keys + 1 = length_permutation more last same ∙ (ap length pushed_is ∙ length-append keys (key ∷ [])) in
        let front : IsPermutation (key ∷ keys) last = IsPermutation-trans _ _ _ (IsPermutation-sym _ _ (IsPermutation-to_front keys key)) (subst (λ ks. IsPermutation ks last) pushed_is same) in
        record {
          apart = IsDistinct-IsPermutation nat_eq nat_eq_equiv.symm (key ∷ keys) last front (IsDistinct-cons nat_eq key keys (recursion_from_All (λ y. nat_eq key y ≡ false) keys (unequal key keys new_key)) sound.apart);
          held = All-permutation (λ k. IsSome (get new k)) more last same more_held;
          count = omega (arith, count, long, sound.count);
          fits = omega (arith, long, fits);
          values = omega (arith, c2, sound.values);
          places = omega (arith, c, sound.places);
        }

    -- what it shows
    pub put_queue : IsPlaced shape entry → IsQueueOf shape (entries_of keys old) → IsPermutation more last → IsHeap (is_key_ahead shape new) last → IsQueueOf shape (entries_of last new)
    put_queue placed queue same heap = record {
      placed = placed_entries shape new last (All-permutation (IsKnown shape new) more last same (put_known placed queue));
      heap = entries_heap shape new last heap;
    }

    pub put_added : IsPermutation more last → IsPermutation (entry ∷ entries_of keys old) (entries_of last new)
    put_added same = IsPermutation-trans _ _ _ (IsPermutation-sym _ _ (IsPermutation-to_front (entries_of keys old) entry)) (rw more_entries at (IsPermutation-map (entry_at new) more last same))

-- a key went out of the heap, and its entry out of the slab
module _ (shape : TreeShape) (keys last : List ℕ) (old new : Slab Entry) (key : ℕ) (capacity capacity' room : ℕ) where
  module _ (sound : IsSound keys capacity old room) (popped : IsPermutation keys (key ∷ last)) (updates : Updates old new key None) where
    apart_now : IsDistinct nat_eq (key ∷ last)
    apart_now = IsDistinct-IsPermutation nat_eq nat_eq_equiv.symm keys (key ∷ last) popped sound.apart

    gone_key : Lacks key last
    gone_key = lacks_first key last apart_now

    left_entries : entries_of last new ≡ entries_of last old
    left_entries = entries_of-kept old new key None updates last gone_key

    all_held : All (λ k. IsSome (get old k)) (key ∷ last)
    all_held = All-permutation (λ k. IsSome (get old k)) keys (key ∷ last) popped sound.held

    pub take_sound : slab_len new + 1 ≡ slab_len old → capacity' ≡ capacity → new.capacity ≡ old.capacity → IsSound last capacity' new room
    take_sound count c c2 =
        let long : length last + 1 ≡ length keys = omega (arith, length_permutation keys (key ∷ last) popped) in
        record {
          apart = IsDistinct-tail nat_eq key last apart_now;
          held = λ i d l. rw (updates.others (slice_index_or last i d) (gone_key i d l)) (All-tail (λ k. IsSome (get old k)) key last all_held i d l);
          count = omega (arith, count, long, sound.count);
          fits = omega (arith, long, sound.fits);
          values = omega (arith, c2, sound.values);
          places = omega (arith, c, sound.places);
        }

    pub take_queue : IsQueueOf shape (entries_of keys old) → IsHeap (is_key_ahead shape old) last → IsQueueOf shape (entries_of last new)
    take_queue queue heap = rw left_entries (record {
      placed = placed_entries shape old last (All-tail (IsKnown shape old) key last (All-permutation (IsKnown shape old) keys (key ∷ last) popped (known_keys shape old keys sound.held queue.placed)));
      heap = entries_heap shape old last heap;
    })

    -- the first entry of the queue is the one at the first key
    first_entry : (first : Entry) → key ≡ slice_index_or keys 0 key → slice_get (entries_of keys old) 0 ≡ Some first → entry_at old key ≡ first
    first_entry first at h =
        let some : 0 < length (entries_of keys old) = slice_get_within (entries_of keys old) 0 first h in
        let found = get_or_from_slice_get (entries_of keys old) 0 first no_entry h in
        ap (entry_at old) at ∙ (sym (get_or-map (entry_at old) keys 0 key no_entry (omega (arith, some, length-map keys (entry_at old)))) ∙ found)

    pub take_taken : key ≡ slice_index_or keys 0 key → (first : Entry) → slice_get (entries_of keys old) 0 ≡ Some first → IsPermutation (entries_of keys old) (first ∷ entries_of last new)
    take_taken at first h = subst (λ e. IsPermutation (entries_of keys old) (e ∷ entries_of last new)) (first_entry first at h) (rw left_entries (IsPermutation-map (entry_at old) keys (key ∷ last) popped))

    -- the key that went out had an entry
    pub taken_there : (found : Option Entry) → found ≡ get old key → IsSome found
    taken_there found h = rw h (All-head (λ k. IsSome (get old k)) key last all_held)

-- what holds where there is something
pub on_some : {A : Type 0} (o : Option A) (P : Type 0) → IsSome o → OnSome o P → P
on_some None P i h = cc
on_some (Some x) P i h = h
