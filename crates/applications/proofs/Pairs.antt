-- Pairs in lists that are made of others.
use Rattle.std.proofs.Common.{List, [], ◌∷◌, ◌++◌, map, All, AllPairs, arith}
use Rattle.std.proofs.lemmas.List.Elements.{All-nil, All-cons, All-head, All-tail, All-append, All-weaker, All-map}
use Rattle.std.proofs.lemmas.List.Kept.{AllPairs-cons}
use Rattle.head_laws.proofs.Numbers.{AllPairs-head, AllPairs-tail}
use Rattle.applications.specs.Candidates.{each}

pub one_pair : {X : Type 0} (R : X → X → Type 0) (x : X) → AllPairs R (x ∷ [])
one_pair R x i j d less within = absurd (omega (arith, less, within))

pub no_pair : {X : Type 0} (R : X → X → Type 0) → AllPairs R []
no_pair R i j d less within = absurd (omega (arith, within))

pub AllPairs-append : {X : Type 0} (R : X → X → Type 0) (us vs : List X) → AllPairs R us → AllPairs R vs → All (λ u. All (R u) vs) us → AllPairs R (us ++ vs)
AllPairs-append R [] vs first second across = second
AllPairs-append R (u ∷ us) vs first second across =
    AllPairs-cons R u (us ++ vs) (All-append (R u) us vs (AllPairs-head R u us first) (All-head (λ x. All (R x) vs) u us across))
    (AllPairs-append R us vs (AllPairs-tail R u us first) second (All-tail (λ x. All (R x) vs) u us across))

pub AllPairs-map : {X Y : Type 0} (R : Y → Y → Type 0) (S : X → X → Type 0) (f : X → Y) → ((x y : X) → S x y → R (f x) (f y)) → (xs : List X) → AllPairs S xs → AllPairs R (map f xs)
AllPairs-map R S f each_pair [] pairs = no_pair R
AllPairs-map R S f each_pair (x ∷ xs) pairs =
    AllPairs-cons R (f x) (map f xs)
    (All-map (R (f x)) f xs (All-weaker (S x) (λ y. R (f x) (f y)) (λ y s. each_pair x y s) xs (AllPairs-head S x xs pairs)))
    (AllPairs-map R S f each_pair xs (AllPairs-tail S x xs pairs))

pub everywhere : {X : Type 0} (P : X → Type 0) (xs : List X) → ((x : X) → P x) → All P xs
everywhere P [] holds = All-nil P
everywhere P (x ∷ xs) holds = All-cons P x xs (holds x) (everywhere P xs holds)

-- Each element with each of a list: the elements differ, or what they are taken with.
module _ {A Z B : Type 0} (S : A → A → Type 0) (R : B → B → Type 0) (put : A → Z → B) (zs : List Z) where
  All-blocks : (P : B → Type 0) (xs : List A) → All (λ x. (z : Z) → P (put x z)) xs → All P (each xs (λ x. map (put x) zs))
  All-blocks P [] all = All-nil P
  All-blocks P (x ∷ xs) all =
      let Q : A → Type 0 = λ y. (z : Z) → P (put y z) in
      All-append P (map (put x) zs) (each xs (λ y. map (put y) zs)) (All-map P (put x) zs (everywhere (λ z. P (put x z)) zs (All-head Q x xs all))) (All-blocks P xs (All-tail Q x xs all))

  pub AllPairs-blocks : ((x y : A) → S x y → (u v : Z) → R (put x u) (put y v)) → ((x : A) → AllPairs R (map (put x) zs)) → (xs : List A) → AllPairs S xs → AllPairs R (each xs (λ x. map (put x) zs))
  AllPairs-blocks across inside [] pairs = no_pair R
  AllPairs-blocks across inside (x ∷ xs) pairs =
      let later = each xs (λ y. map (put y) zs) in
      AllPairs-append R (map (put x) zs) later (inside x) (AllPairs-blocks across inside xs (AllPairs-tail S x xs pairs))
      (All-map (λ u. All (R u) later) (put x) zs (everywhere (λ z. All (R (put x z)) later) zs
      (λ z. All-blocks (R (put x z)) xs (All-weaker (S x) (λ y. (v : Z) → R (put x z) (put y v)) (λ y s v. across x y s z v) xs (AllPairs-head S x xs pairs)))))
