-- Two ways to cut a list of tokens in a prefix and a rest: one prefix goes on where the other ends.
use Rattle.std.proofs.Common.{◌≡◌, ◌⊎◌, inl, inr, List, [], ◌∷◌, ◌++◌, refl, sym, ap, ◌∙◌}
use Rattle.std.proofs.lemmas.List.{append-nil}
use Rattle.lex_text.specs.declared.token.Token.{Token}

-- The second prefix is the first one and `more`, with which the first rest begins.
pub record Extends (prefix rest longer left : List Token) : Type 0 where
  pub more : List Token
  pub prefix_is : longer ≡ prefix ++ more
  pub rest_is : rest ≡ more ++ left

pub head_is : {x y : Token} {xs ys : List Token} → x ∷ xs ≡ y ∷ ys → x ≡ y
head_is e = cc

pub tail_is : {x y : Token} {xs ys : List Token} → x ∷ xs ≡ y ∷ ys → xs ≡ ys
tail_is e = cc

extends_cons : {x y : Token} {prefix rest longer left : List Token} → x ≡ y →
    Extends prefix rest longer left → Extends (x ∷ prefix) rest (y ∷ longer) left
extends_cons e h = record { more = h.more; prefix_is = (let p = h.prefix_is in cc); rest_is = h.rest_is }

pub one_extends : (prefix rest other left : List Token) → prefix ++ rest ≡ other ++ left →
    Extends prefix rest other left ⊎ Extends other left prefix rest
one_extends [] rest other left e = inl (record { more = other; prefix_is = refl; rest_is = e })
one_extends (x ∷ prefix) rest [] left e = inr (record { more = x ∷ prefix; prefix_is = refl; rest_is = sym e })
one_extends (x ∷ prefix) rest (y ∷ other) left e =
    elim (one_extends prefix rest other left (tail_is e)) [
      | inl h ↦ inl (extends_cons (head_is e) h)
      | inr h ↦ inr (extends_cons (sym (head_is e)) h)
    ]

-- nothing more: the two ways are one
pub same_prefix : (prefix rest longer left : List Token) (h : Extends prefix rest longer left) → h.more ≡ [] → longer ≡ prefix
same_prefix prefix rest longer left h e = h.prefix_is ∙ (ap (λ m. prefix ++ m) e ∙ append-nil prefix)

pub same_rest : (prefix rest longer left : List Token) (h : Extends prefix rest longer left) → h.more ≡ [] → left ≡ rest
same_rest prefix rest longer left h e = sym (h.rest_is ∙ ap (λ m. m ++ left) e)
