-- Texts that grow by one piece for each item of a list.
use Rattle.std.proofs.Common.{◌≡◌, ℕ, ◌+◌, ◌<◌, ◌≤◌, List, [], ◌∷◌, ◌++◌, length, get_or, take, map, All, sym, ap, ◌∙◌, subst, arith, append_assoc, append-nil, slice_get, Some}
use Rattle.std.specs.List.{flat_map}
use Rattle.std.specs.Io.{StartsWith}
use Rattle.std.proofs.lemmas.List.{take_all, take-append-le, take_more, length-map}
use Rattle.std.proofs.Math.ListN.{get_or-map}
use Rattle.std.proofs.lemmas.Option.{get_or_from_slice_get}
use Rattle.std.proofs.lemmas.List.Folds.{flat_map-map}
use Rattle.std.proofs.lemmas.Grind.{flat_map-append}

-- The pieces of the first items are written.
pub record Written {A : Type 0} (piece : A → List ℕ) (items : List A) (i : ℕ) (old out : List ℕ) : Type 0 where
  pub written : out ≡ old ++ flat_map piece (take i items)
  pub kept : StartsWith out old

kept_appended : (old text new : List ℕ) → new ≡ old ++ text → StartsWith new old
kept_appended old text new more = ap (take (length old)) more ∙ take-append-le (length old) old text (omega arith) ∙ take_all (length old) old (omega arith)

module _ {A : Type 0} (piece : A → List ℕ) (items : List A) where
  take_read : (i : ℕ) (x : A) → i < length items → Some x ≡ slice_get items i → take (i + 1) items ≡ take i items ++ x ∷ []
  take_read i x within is = take_more items i x within ∙ ap (λ y. take i items ++ y ∷ []) (get_or_from_slice_get items i x x (sym is))

  -- the piece of the item that is read at the next place
  pub one_written : (i : ℕ) (x : A) (old out new : List ℕ) → i < length items → Some x ≡ slice_get items i → Written piece items i old out → new ≡ out ++ piece x →
      Written piece items (i + 1) old new
  one_written i x old out new within is before here =
      let before_it = flat_map piece (take i items) in
      let all : new ≡ old ++ flat_map piece (take (i + 1) items) =
      here ∙ ap (λ l. l ++ piece x) before.written ∙ append_assoc old before_it (piece x) ∙ ap (λ l. old ++ (before_it ++ l)) (sym (append-nil (piece x)))
      ∙ ap (λ l. old ++ l) (sym (flat_map-append piece (take i items) (x ∷ []))) ∙ ap (λ l. old ++ flat_map piece l) (sym (take_read i x within is)) in
      record { written = all; kept = kept_appended old (flat_map piece (take (i + 1) items)) new all }

-- the pieces of all items, which are seen as others
pub all_seen_written : {A B : Type 0} (piece : B → List ℕ) (seen : A → B) (items : List A) (i : ℕ) (old out : List ℕ) → length items ≤ i →
    Written (λ x. piece (seen x)) items i old out → out ≡ old ++ flat_map piece (map seen items)
all_seen_written piece seen items i old out past before =
    before.written ∙ ap (λ l. old ++ flat_map (λ x. piece (seen x)) l) (take_all i items past) ∙ ap (λ l. old ++ l) (sym (flat_map-map piece seen items))

-- what holds of all items, as they are seen, holds of one
pub seen_at : {A B : Type 0} (P : B → Type 0) (seen : A → B) (items : List A) (i : ℕ) (x : A) → i < length items → x ≡ get_or items i x → All P (map seen items) → P (seen x)
seen_at P seen items i x within is all = subst P (get_or-map seen items i x ∙ ap seen (sym is)) (all i (seen x) (rw length-map within))
