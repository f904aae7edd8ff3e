-- Lists of constructors, one more at a time.
use Rattle.std.proofs.Common.{◌≡◌, ℕ, zero, suc, ◌+◌, ◌<◌, ◌≤◌, List, [], ◌∷◌, ◌++◌, length, get_or, take, Option, Some, None, refl, sym, ap, ◌∙◌, subst, arith, ◌⊎◌, inl, inr, Bool, not}
use Rattle.std.specs.Prelude.{slice_get, Contains, nat_eq, true, false, cond}
use Rattle.std.proofs.lemmas.List.{take_more, take-append-le, take_at}
use Rattle.std.specs.Cmp.{nat_eq_equiv}
use Rattle.std.specs.List.{list_any}
use Rattle.std.proofs.lemmas.Bool.{eqb-true}
use Rattle.std.proofs.lemmas.Map.Views.{Contains-from_any, list_any-from_Contains}
use Rattle.std.proofs.lemmas.Option.{slice_get-get_or}
use Rattle.indexmap.specs.IndexSet.{insert_key}
use Rattle.lf_definitions.specs.Syntax.{LfType, conclusion}
use Rattle.lf_definitions.specs.Signatures.{LfSignature, constant_types}
use Rattle.rule_sets.specs.Books.{Book, list_of}
use Rattle.rule_sets.specs.Refusals.{AreConstructors, HasFamily, IsFirstFaultOfList, list_repeated, list_other}
use Rattle.rule_sets.specs.declared.rule.CtorFault.TheVariants.{Repeated, Other}

pub slice_get-last : {X : Type 0} (xs : List X) (c d : X) (place : ℕ) → slice_get (xs ++ c ∷ []) place ≡ Some d → ((place < length xs) × (slice_get xs place ≡ Some d)) ⊎ ((place ≡ length xs) × (c ≡ d))
slice_get-last {X} [] c d zero e = inr (refl, inj e)
  where
    inj : ◌≡◌ {A = Option X} (Some c) (Some d) → c ≡ d
    inj e = cc
slice_get-last [] c d (suc place) e = absurd cc
slice_get-last (x ∷ xs) c d zero e = inl (omega arith, e)
slice_get-last (x ∷ xs) c d (suc place) e = elim (slice_get-last xs c d place e) [ inl (within, here) ↦ inl (omega (arith, within), here) | inr (last, same) ↦ inr (ap suc last, same) ]

constructors_last : (sig : LfSignature) (f : ℕ) (xs : List ℕ) (c : ℕ) → AreConstructors sig f xs → (Contains xs c → ⊥) → HasFamily sig f c → AreConstructors sig f (xs ++ c ∷ [])
constructors_last sig f xs c good new has place d e =
    elim (slice_get-last xs c d place e) [
      | inl (within, here) ↦
          let before : place ≤ length xs = omega (arith, within) in
          let P : List ℕ → Type 0 = λ l. Contains l d → ⊥ in
          (subst P (sym (take-append-le place xs (c ∷ []) before)) (good place d here).0, (good place d here).1)
      | inr (last, same) ↦
          let all : take place (xs ++ c ∷ []) ≡ xs = take_at xs (c ∷ []) place (sym last) in
          let P : List ℕ → Type 0 = λ l. Contains l d → ⊥ in
          let Q : ℕ → Type 0 = λ x. Contains xs x → ⊥ in
          let R : ℕ → Type 0 = HasFamily sig f in
          (subst P (sym all) (subst Q same new), subst R same has)
    ]

-- whether a set took a constant as new, which is true where it had not been there
pub was_seen : (b new : Bool) → new ≡ not b → new ≡ false → b ≡ true
was_seen true new is old = cc
was_seen false new is old = absurd cc

pub was_unseen : (b new : Bool) → new ≡ not b → new ≡ true → b ≡ false
was_unseen true new is old = absurd cc
was_unseen false new is old = cc

pub has_family : (sig : LfSignature) (f c : ℕ) (a : LfType) → slice_get (constant_types sig) c ≡ Some a → conclusion a ≡ f → HasFamily sig f c
has_family sig f c a is ends = record { type = a; type_is = is; family_is = ends }

pub family_had : (sig : LfSignature) (f c : ℕ) (a : LfType) → slice_get (constant_types sig) c ≡ Some a → HasFamily sig f c → conclusion a ≡ f
family_had sig f c a is has = ap conclusion (inj (sym is ∙ has.type_is)) ∙ has.family_is
  where
    inj : {x y : LfType} → ◌≡◌ {A = Option LfType} (Some x) (Some y) → x ≡ y
    inj e = cc

-- What the next constant of a list is, where those before it are good and have been passed.
module _ (sig : LfSignature) (f : ℕ) (items constants : List ℕ) (i : ℕ) (keys : List ℕ) (all : items ≡ constants) (within : i < length items) (passed : keys ≡ take i items)
    (good : AreConstructors sig f (take i items)) where
  here : slice_get constants i ≡ Some (get_or items i 0)
  here = ap (λ l. slice_get l i) (sym all) ∙ slice_get-get_or items i 0 within

  good_before : AreConstructors sig f (take i constants)
  good_before = let P : List ℕ → Type 0 = λ l. AreConstructors sig f (take i l) in subst P all good

  seen : list_any (nat_eq (get_or items i 0)) keys ≡ true → Contains (take i items) (get_or items i 0)
  seen found = let P : List ℕ → Type 0 = λ l. Contains l (get_or items i 0) in subst P passed (Contains-from_any eqb-true (get_or items i 0) keys found)

  unseen : list_any (nat_eq (get_or items i 0)) keys ≡ false → Contains (take i items) (get_or items i 0) → ⊥
  unseen none has =
      let P : List ℕ → Type 0 = λ l. Contains l (get_or items i 0) in
      let found : list_any (nat_eq (get_or items i 0)) keys ≡ true = list_any-from_Contains nat_eq_equiv (get_or items i 0) keys (subst P (sym passed) has) in cc

  pub repeated_here : list_any (nat_eq (get_or items i 0)) keys ≡ true → (book : Book) → list_of book.lists f ≡ None → IsFirstFaultOfList sig book f constants (Repeated i)
  repeated_here found book none =
      let P : List ℕ → Type 0 = λ l. Contains (take i l) (get_or items i 0) in
      list_repeated i (get_or items i 0) none good_before here (subst P all (seen found))

  pub other_here : list_any (nat_eq (get_or items i 0)) keys ≡ false → (HasFamily sig f (get_or items i 0) → ⊥) → (book : Book) → list_of book.lists f ≡ None → IsFirstFaultOfList sig book f constants (Other i)
  other_here missing other book none =
      let P : List ℕ → Type 0 = λ l. Contains (take i l) (get_or items i 0) → ⊥ in
      list_other i (get_or items i 0) none good_before here (subst P all (unseen missing)) other

  pub good_more : list_any (nat_eq (get_or items i 0)) keys ≡ false → HasFamily sig f (get_or items i 0) → AreConstructors sig f (take (i + 1) items)
  good_more missing has =
      let P : List ℕ → Type 0 = AreConstructors sig f in
      subst P (sym (take_more items i 0 within)) (constructors_last sig f (take i items) (get_or items i 0) good (unseen missing) has)

  pub passed_more : (new : List ℕ) → list_any (nat_eq (get_or items i 0)) keys ≡ false → new ≡ insert_key nat_eq keys (get_or items i 0) → new ≡ take (i + 1) items
  passed_more new missing is =
      is ∙ ap (λ b. cond b keys (keys ++ get_or items i 0 ∷ [])) missing ∙ ap (λ l. l ++ get_or items i 0 ∷ []) passed ∙ sym (take_more items i 0 within)
