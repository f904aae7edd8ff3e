-- What is found in lists, and lists that are made alike.
use Rattle.std.proofs.Common.{◌≡◌, Bool, true, false, cond, Some, List, [], ◌∷◌, ◌++◌, map, All, refl, ap, ap₂, ◌∙◌, subst}
use Rattle.std.specs.Prelude.{find, flat_map, if◌then◌else◌}
use Rattle.std.proofs.lemmas.List.{map-append}
use Rattle.std.proofs.lemmas.List.Elements.{All-nil, All-cons, All-head, All-tail, All-append}
use Rattle.lf_definitions.proofs.Options.{Some-Some}
use Rattle.alternatives.specs.Rules.{LfRule}
use Rattle.alternatives.specs.Alternatives.{ranks_before, ranked_with, ranked}

-- What is true of all is true of the one that is found.
pub All-found : {X : Type 0} (P : X → Type 0) (test : X → Bool) (xs : List X) → All P xs → (x : X) → find test xs ≡ Some x → P x × (test x ≡ true)
All-found P test [] all x e = absurd cc
All-found {X} P test (y ∷ xs) all x e = step (test y) refl e (All-found P test xs (All-tail P y xs all) x)
  where
    step : (b : Bool) → test y ≡ b → cond b (Some y) (find test xs) ≡ Some x → (find test xs ≡ Some x → P x × (test x ≡ true)) → P x × (test x ≡ true)
    step true is f later = subst (λ z. P z × (test z ≡ true)) (Some-Some f) (All-head P y xs all, is)
    step false is f later = later f

pub All-flat_map : {X Y : Type 0} (P : Y → Type 0) (f : X → List Y) (xs : List X) → All (λ x. All P (f x)) xs → All P (flat_map f xs)
All-flat_map P f [] all = All-nil P
All-flat_map P f (x ∷ xs) all = All-append P (f x) (flat_map f xs) (All-head (λ y. All P (f y)) x xs all) (All-flat_map P f xs (All-tail (λ y. All P (f y)) x xs all))

pub map_alike : {X Y : Type 0} (f g : X → Y) (xs : List X) → All (λ x. f x ≡ g x) xs → map f xs ≡ map g xs
map_alike f g [] all = refl
map_alike f g (x ∷ xs) all = ap₂ (λ y ys. y ∷ ys) (All-head (λ z. f z ≡ g z) x xs all) (map_alike f g xs (All-tail (λ z. f z ≡ g z) x xs all))

pub flat_map_alike : {X Y : Type 0} (f g : X → List Y) (xs : List X) → All (λ x. f x ≡ g x) xs → flat_map f xs ≡ flat_map g xs
flat_map_alike f g [] all = refl
flat_map_alike f g (x ∷ xs) all = ap₂ (λ ys zs. ys ++ zs) (All-head (λ z. f z ≡ g z) x xs all) (flat_map_alike f g xs (All-tail (λ z. f z ≡ g z) x xs all))

pub map-flat_map : {X Y Z : Type 0} (h : Y → Z) (f : X → List Y) (xs : List X) → map h (flat_map f xs) ≡ flat_map (λ x. map h (f x)) xs
map-flat_map h f [] = refl
map-flat_map h f (x ∷ xs) = map-append h (f x) (flat_map f xs) ∙ ap (λ zs. map h (f x) ++ zs) (map-flat_map h f xs)

All-ranked_with : (P : LfRule → Type 0) (rule : LfRule) (rules : List LfRule) → P rule → All P rules → All P (ranked_with rule rules)
All-ranked_with P rule [] here all = All-cons P rule [] here all
All-ranked_with P rule (other ∷ rest) here all = step (ranks_before other rule) (All-ranked_with P rule rest here (All-tail P other rest all))
  where
    step : (b : Bool) → All P (ranked_with rule rest) → All P (if b then other ∷ ranked_with rule rest else rule ∷ other ∷ rest)
    step true later = All-cons P other (ranked_with rule rest) (All-head P other rest all) later
    step false later = All-cons P rule (other ∷ rest) here all

pub All-ranked : (P : LfRule → Type 0) (rules : List LfRule) → All P rules → All P (ranked rules)
All-ranked P [] all = all
All-ranked P (rule ∷ rest) all = All-ranked_with P rule (ranked rest) (All-head P rule rest all) (All-ranked P rest (All-tail P rule rest all))
