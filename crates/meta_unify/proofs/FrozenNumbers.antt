-- Numbers that are kept as a set.
use Rattle.std.proofs.Common.{◌≡◌, ℕ, ◌+◌, ◌<◌, Bool, true, false, ◌||◌, List, [], ◌∷◌, ◌++◌, length, get_or, take, refl, sym, ap, ap₂, ◌∙◌}
use Rattle.std.specs.Prelude.{nat_eq, if◌then◌else◌}
use Rattle.std.specs.Cmp.{nat_eq_equiv}
use Rattle.std.specs.List.{list_any}
use Rattle.std.proofs.lemmas.Bool.{eqb-true}
use Rattle.std.proofs.lemmas.List.{take_more}
use Rattle.indexmap.specs.IndexSet.{insert_key}
use Rattle.unification.specs.Patterns.{has_number}

pub list_any-has_number : (ns : List ℕ) (n : ℕ) → list_any (nat_eq n) ns ≡ has_number ns n
list_any-has_number [] n = refl
list_any-has_number (m ∷ ns) n = ap₂ (λ x y. x || y) (nat_eq_equiv.symm n m) (list_any-has_number ns n)

or_none : (x : Bool) → (x || false) ≡ x
or_none true = refl
or_none false = refl

or_assoc : (x y z : Bool) → (x || (y || z)) ≡ ((x || y) || z)
or_assoc true y z = refl
or_assoc false y z = refl

has_number-push : (ns : List ℕ) (n g : ℕ) → has_number (ns ++ n ∷ []) g ≡ (has_number ns g || nat_eq n g)
has_number-push [] n g = or_none (nat_eq n g)
has_number-push (m ∷ ns) n g = ap (λ b. nat_eq m g || b) (has_number-push ns n g) ∙ or_assoc (nat_eq m g) (has_number ns g) (nat_eq n g)

-- a number that is there already
or_there : (x y : Bool) → (y ≡ true → x ≡ true) → x ≡ (x || y)
or_there true y there = refl
or_there false true there = there refl
or_there false false there = refl

has_number-insert_key : (ns : List ℕ) (n g : ℕ) → has_number (insert_key nat_eq ns n) g ≡ (has_number ns g || nat_eq n g)
has_number-insert_key ns n g = each (list_any (nat_eq n) ns) refl
  where
    each : (b : Bool) → list_any (nat_eq n) ns ≡ b → has_number (if b then ns else ns ++ n ∷ []) g ≡ (has_number ns g || nat_eq n g)
    each true e = or_there (has_number ns g) (nat_eq n g) (λ same. ap (has_number ns) (sym (eqb-true n g same)) ∙ sym (list_any-has_number ns n) ∙ e)
    each false e = has_number-push ns n g

pub number_more : (items keys new : List ℕ) (i : ℕ) → i < length items → new ≡ insert_key nat_eq keys (get_or items i 0) → ((g : ℕ) → has_number keys g ≡ has_number (take i items) g) → (g : ℕ) →
    has_number new g ≡ has_number (take (i + 1) items) g
number_more items keys new i within more same g =
    let n = get_or items i 0 in
    ap (λ ns. has_number ns g) more ∙ has_number-insert_key keys n g ∙ ap (λ b. b || nat_eq n g) (same g) ∙ sym (has_number-push (take i items) n g) ∙ ap (λ ns. has_number ns g) (sym (take_more items i 0 within))
