-- Lists that are compared place by place.
use Rattle.std.proofs.Common.{◌≡◌, ℕ, zero, suc, ◌+◌, ◌<◌, ◌≤◌, Bool, true, false, cond, Option, Some, None, option_map, List, [], ◌∷◌, ◌++◌, length, get_or, take, drop, map, All, find, refl, sym, ap, ap₂, ◌∙◌, subst, arith}
use Rattle.std.specs.Prelude.{◌&&◌, nat_eq, slice_get}
use Rattle.std.proofs.lemmas.List.{map-append}
use Rattle.std.proofs.lemmas.Option.{slice_get_within, get_or_from_slice_get}
use Rattle.lf_definitions.specs.Syntax.{LfTerm}
use Rattle.lf_definitions.specs.Typing.{LfGoal}
use Rattle.lf_definitions.specs.Instantiation.{Instantiated}
use Rattle.alternatives.specs.NormalForms.{has_none}
use Rattle.applications.specs.Applications.{LfApplication}
use Rattle.meta_goals.specs.Bindings.{LfBinding, assigning}
use Rattle.goal_book.specs.declared.choices.Choice.{Choice}
use Rattle.goal_book.specs.Choices.{LfChoice, seen_choice}
use Rattle.proof_replay.specs.Putting.{with_body, put_into, CanEnd}
use Rattle.std.proofs.lemmas.List.{drop_more, drop_all}
use Rattle.build_shared.specs.declared.label.Label.{Label}
use Rattle.build_shared.specs.Seen.{seen_label, seen_application}
use Rattle.derivations.specs.Replays.{same_numbers, same_label, same_labels}

-- an element and the rest
pub read_at : {A : Type 0} (xs : List A) (i : ℕ) (x : A) → i < length xs → x ≡ get_or xs i x → drop i xs ≡ x ∷ drop (i + 1) xs
read_at xs i x less is = drop_more xs i x less ∙ ap (λ z. z ∷ drop (i + 1) xs) (sym is)

module _ {A : Type 0} (test : A → A → Bool) where
  -- A test of each place, where both lists have as many.
  abbrev pub pairwise : List A → List A → Bool
  pairwise [] [] = true
  pairwise [] (y ∷ ys) = false
  pairwise (x ∷ xs) [] = false
  pairwise (x ∷ xs) (y ∷ ys) = test x y && pairwise xs ys

  pub other_length : (xs ys : List A) → (length xs ≡ length ys → ⊥) → pairwise xs ys ≡ false
  other_length [] [] differ = absurd (differ refl)
  other_length [] (y ∷ ys) differ = refl
  other_length (x ∷ xs) [] differ = refl
  other_length (x ∷ xs) (y ∷ ys) differ = step (test x y) (other_length xs ys (λ e. differ (omega (arith, e))))
    where
      step : (b : Bool) → pairwise xs ys ≡ false → (b && pairwise xs ys) ≡ false
      step true later = later
      step false later = refl

  module _ (xs ys : List A) (i : ℕ) where
    pub same_at_end : length xs ≡ length ys → length xs ≤ i → pairwise xs ys ≡ pairwise (drop i xs) (drop i ys) → pairwise xs ys ≡ true
    same_at_end lengths end so_far = so_far ∙ ap₂ pairwise (drop_all i xs end) (drop_all i ys (omega (arith, lengths, end)))

    module _ (x y : A) (x_is : drop i xs ≡ x ∷ drop (i + 1) xs) (y_is : drop i ys ≡ y ∷ drop (i + 1) ys) (so_far : pairwise xs ys ≡ pairwise (drop i xs) (drop i ys)) where
      here : pairwise xs ys ≡ (test x y && pairwise (drop (i + 1) xs) (drop (i + 1) ys))
      here = so_far ∙ ap₂ pairwise x_is y_is

      pub same_next : test x y ≡ true → pairwise xs ys ≡ pairwise (drop (i + 1) xs) (drop (i + 1) ys)
      same_next is = here ∙ ap (λ b. b && pairwise (drop (i + 1) xs) (drop (i + 1) ys)) is

      pub differs_here : test x y ≡ false → pairwise xs ys ≡ false
      differs_here is = here ∙ ap (λ b. b && pairwise (drop (i + 1) xs) (drop (i + 1) ys)) is

pub numbers_pairwise : (ns ks : List ℕ) → same_numbers ns ks ≡ pairwise nat_eq ns ks
numbers_pairwise [] [] = refl
numbers_pairwise [] (k ∷ ks) = refl
numbers_pairwise (n ∷ ns) [] = refl
numbers_pairwise (n ∷ ns) (k ∷ ks) = ap (λ b. nat_eq n k && b) (numbers_pairwise ns ks)

-- labels of the code
abbrev pub labels_test : Label → Label → Bool
labels_test l k = same_label (seen_label l) (seen_label k)

pub labels_pairwise : (ls ks : List Label) → same_labels (map seen_label ls) (map seen_label ks) ≡ pairwise labels_test ls ks
labels_pairwise [] [] = refl
labels_pairwise [] (k ∷ ks) = refl
labels_pairwise (l ∷ ls) [] = refl
labels_pairwise (l ∷ ls) (k ∷ ks) = ap (λ b. labels_test l k && b) (labels_pairwise ls ks)

-- Bindings by their places.
pub nothing_within : {X : Type 0} (xs : List X) (i : ℕ) → i < length xs → slice_get xs i ≡ None → ⊥
nothing_within [] i within e = omega (arith, within)
nothing_within (x ∷ xs) zero within e = cc
nothing_within (x ∷ xs) (suc i) within e = nothing_within xs i (omega (arith, within)) e

pub All-at : {X : Type 0} (P : X → Type 0) (xs : List X) (i : ℕ) (x : X) → All P xs → slice_get xs i ≡ Some x → P x
All-at P xs i x all e = subst P (get_or_from_slice_get xs i x x e) (all i x (slice_get_within xs i x e))

pub take_found : {X : Type 0} (xs : List X) (i : ℕ) (x : X) → slice_get xs i ≡ Some x → take (i + 1) xs ≡ take i xs ++ x ∷ []
take_found [] i x e = absurd cc
take_found (y ∷ xs) zero x e = let same : y ≡ x = cc in ap (λ z. z ∷ []) same
take_found (y ∷ xs) (suc i) x e =
    let count : suc i + 1 ≡ suc (i + 1) = omega arith in
    ap (λ n. take n (y ∷ xs)) count ∙ ap (λ rest. y ∷ rest) (take_found xs i x e)

-- One entry more, with what goals become put into its body.
pub entries_more : (goals : List LfGoal) (finals build : List LfBinding) (i : ℕ) (b : LfBinding) → All (CanEnd goals finals) build → slice_get build i ≡ Some b → (old new : List LfBinding) →
    old ≡ map (put_into goals finals) (take i build) → (body : LfTerm) → Instantiated (assigning finals) b.bound_body body → new ≡ old ++ with_body b.number b.shapes body ∷ [] →
    new ≡ map (put_into goals finals) (take (i + 1) build)
entries_more goals finals build i b all there old new so_far body result made =
    let put = put_into goals finals in
    let can = All-at (CanEnd goals finals) build i b all there in
    made ∙ ap₂ (λ l v. l ++ with_body b.number b.shapes v ∷ []) so_far (can.only body result) ∙ sym (map-append put (take i build) (b ∷ [])) ∙ ap (map put) (sym (take_found build i b there))

-- no goal
pub some_in_first : (xs ys : List LfGoal) → (length xs ≡ 0 → ⊥) → false ≡ has_none (xs ++ ys)
some_in_first [] ys some = absurd (some refl)
some_in_first (x ∷ xs) ys some = refl

-- what is left of a stream
pub none_left : {A : Type 0} (xs : List A) → length xs ≡ 0 → xs ≡ []
none_left [] e = refl
none_left (x ∷ xs) e = absurd (omega (arith, e))

-- the first choice that passes
module _ (test : LfChoice → Bool) where
  abbrev pub first_app : List LfChoice → Option LfApplication
  first_app cs = option_map (λ (c : LfChoice). c.application) (find test cs)

  pub first_passes : (x : Choice) (rest : List Choice) → test (seen_choice x) ≡ true → Some (seen_application x.app) ≡ first_app (map seen_choice (x ∷ rest))
  first_passes x rest is = ap (λ b. option_map (λ (c : LfChoice). c.application) (cond b (Some (seen_choice x)) (find test (map seen_choice rest)))) (sym is)

  pub first_fails : (x : Choice) (rest : List Choice) → test (seen_choice x) ≡ false → first_app (map seen_choice rest) ≡ first_app (map seen_choice (x ∷ rest))
  first_fails x rest is = ap (λ b. option_map (λ (c : LfChoice). c.application) (cond b (Some (seen_choice x)) (find test (map seen_choice rest)))) (sym is)
