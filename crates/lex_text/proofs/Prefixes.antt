-- Two ways to cut a list in a prefix and a rest: one prefix goes on where the other ends.
use Rattle.std.proofs.Common.{◌≡◌, ℕ, ◌⊎◌, inl, inr, List, [], ◌∷◌, ◌++◌, refl, sym, ap, ◌∙◌}
use Rattle.std.proofs.lemmas.List.{append-nil}

-- The second prefix is the first one and `more`, with which the first rest begins.
pub record GoesOn (prefix rest longer left : List ℕ) : Type 0 where
  pub more : List ℕ
  pub prefix_is : longer ≡ prefix ++ more
  pub rest_is : rest ≡ more ++ left

pub head_is : {x y : ℕ} {xs ys : List ℕ} → x ∷ xs ≡ y ∷ ys → x ≡ y
head_is e = cc

pub tail_is : {x y : ℕ} {xs ys : List ℕ} → x ∷ xs ≡ y ∷ ys → xs ≡ ys
tail_is e = cc

goes_on_cons : {x y : ℕ} {prefix rest longer left : List ℕ} → x ≡ y →
    GoesOn prefix rest longer left → GoesOn (x ∷ prefix) rest (y ∷ longer) left
goes_on_cons e h = record { more = h.more; prefix_is = (let p = h.prefix_is in cc); rest_is = h.rest_is }

pub one_goes_on : (prefix rest other left : List ℕ) → prefix ++ rest ≡ other ++ left →
    GoesOn prefix rest other left ⊎ GoesOn other left prefix rest
one_goes_on [] rest other left e = inl (record { more = other; prefix_is = refl; rest_is = e })
one_goes_on (x ∷ prefix) rest [] left e = inr (record { more = x ∷ prefix; prefix_is = refl; rest_is = sym e })
one_goes_on (x ∷ prefix) rest (y ∷ other) left e =
    elim (one_goes_on prefix rest other left (tail_is e)) [
      | inl h ↦ inl (goes_on_cons (head_is e) h)
      | inr h ↦ inr (goes_on_cons (sym (head_is e)) h)
    ]

-- nothing more: the two ways are one
pub same_prefix : (prefix rest longer left : List ℕ) (h : GoesOn prefix rest longer left) → h.more ≡ [] → longer ≡ prefix
same_prefix prefix rest longer left h e = h.prefix_is ∙ ap (λ m. prefix ++ m) e ∙ append-nil prefix

pub same_rest : (prefix rest longer left : List ℕ) (h : GoesOn prefix rest longer left) → h.more ≡ [] → left ≡ rest
same_rest prefix rest longer left h e = sym (h.rest_is ∙ ap (λ m. m ++ left) e)
