-- What a rule or a list of constructors asks of a constant can be told.
use Rattle.std.proofs.Common.{◌≡◌, ◌≢◌, ℕ, zero, suc, ◌<◌, ◌≤◌, ◌⊎◌, inl, inr, Bool, true, false, IsTrue, Option, Some, None, List, [], ◌∷◌, length, refl, ap, ap₂, ◌∙◌, subst, arith}
use Rattle.std.specs.Prelude.{slice_get, All, Contains, ℤ, ◌≤ℤ◌}
use Rattle.std.proofs.lemmas.Int.{by_lt_z, ints}
use Rattle.std.proofs.lemmas.List.Elements.{All-nil, All-cons, All-tail}
use Rattle.lf_definitions.specs.Syntax.{bound, LfType, pi, family, conclusion}
use Rattle.lf_definitions.specs.Signatures.{LfSignature, constant_types}
use Rattle.lf_definitions.specs.Occurrence.{OccursType, Premises, no_premise, witness, premise}
use Rattle.lf_definitions.proofs.Options.{Some_inj, None-Some}
use Rattle.head_laws.specs.Mentions.{occurs_in_type}
use Rattle.head_laws.proofs.Occurrence.{OccursInType-true, occurs_in_type-from}
use Rattle.rule_sets.specs.Refusals.{IsAtomic, argument_at, IsMajor, HasPremises, HasFamily}
use Rattle.rule_sets.proofs.Premises.{premises_are_one}

abbrev pub HoldsOrNot : Type 0 → Type 0
HoldsOrNot P = P ⊎ (P → ⊥)

pub below_or_not : (n m : ℕ) → (n < m) ⊎ (m ≤ n)
below_or_not n m = grind arith

pub same_or_not : (n m : ℕ) → (n ≡ m) ⊎ (n ≢ m)
same_or_not n m = grind arith

at_most : (a b : ℤ) → HoldsOrNot (a ≤ℤ b)
at_most a b = by_lt_z b a (λ less. inr (λ more. omega (arith, ints, less, more))) (λ more. inl more)

-- A number lies between two others.
pub between : (low value high : ℤ) → HoldsOrNot ((low ≤ℤ value) × (value ≤ℤ high))
between low value high = both (at_most low value) (at_most value high)
  where
    both : HoldsOrNot (low ≤ℤ value) → HoldsOrNot (value ≤ℤ high) → HoldsOrNot ((low ≤ℤ value) × (value ≤ℤ high))
    both (inl above) (inl below) = inl (above, below)
    both (inl above) (inr beyond) = inr (λ h. beyond h.1)
    both (inr beyond) other = inr (λ h. beyond h.0)

-- Whether a number stands in a list.
module _ (x y : ℕ) (xs : List ℕ) where
  later_contains : Contains xs x → Contains (y ∷ xs) x
  later_contains (k, within, here) = (suc k, omega (arith, within), here)

  not_contained : y ≢ x → (Contains xs x → ⊥) → Contains (y ∷ xs) x → ⊥
  not_contained differ none (zero, within, here) = differ here
  not_contained differ none (suc k, within, here) = none (k, omega (arith, within), here)

  contains_by : (y ≡ x) ⊎ (y ≢ x) → HoldsOrNot (Contains xs x) → HoldsOrNot (Contains (y ∷ xs) x)
  contains_by (inl same) later = inl (0, omega arith, same)
  contains_by (inr differ) (inl there) = inl (later_contains there)
  contains_by (inr differ) (inr none) = inr (not_contained differ none)

pub contains_or_not : (xs : List ℕ) (x : ℕ) → HoldsOrNot (Contains xs x)
contains_or_not [] x = inr none
  where
    none : Contains [] x → ⊥
    none (k, within, here) = omega (arith, within)
contains_or_not (y ∷ xs) x = contains_by x y xs (same_or_not y x) (contains_or_not xs x)

-- Whether a type's binder occurs later, which premises it has, and whether they have binders.
by_truth : {P : Type 0} (b : Bool) → (IsTrue b → P) → (P → IsTrue b) → HoldsOrNot P
by_truth true holds says = inl (holds refl)
by_truth false holds says = inr (λ p. let clash : false ≡ true = says p in absurd cc)

occurs_or_not : (a : LfType) → HoldsOrNot (OccursType 0 a)
occurs_or_not a = by_truth (occurs_in_type (bound 0) a) (OccursInType-true (bound 0) a) (λ o. occurs_in_type-from o)

abbrev HasSome : LfType → Type 0
HasSome a = (premises : List LfType) × Premises a premises

at_premise : (a b : LfType) → HoldsOrNot (OccursType 0 b) → HasSome b → HasSome (pi a b)
at_premise a b (inl here) rest = (rest.0, witness a b rest.0 here rest.1)
at_premise a b (inr none) rest = (a ∷ rest.0, premise a b rest.0 none rest.1)

premises_exist : (a : LfType) → HasSome a
premises_exist (pi a b) = at_premise a b (occurs_or_not b) (premises_exist b)
premises_exist (family f ts) = ([], no_premise f ts)

atomic_or_not : (a : LfType) → HoldsOrNot (IsAtomic a)
atomic_or_not (pi a b) = inr (λ h. h)
atomic_or_not (family f args) = inl tt

all_by : (a : LfType) (types : List LfType) → HoldsOrNot (IsAtomic a) → HoldsOrNot (All IsAtomic types) → HoldsOrNot (All IsAtomic (a ∷ types))
all_by a types (inl here) (inl all) = inl (All-cons IsAtomic a types here all)
all_by a types (inl here) (inr other) = inr (λ h. other (All-tail IsAtomic a types h))
all_by a types (inr binders) later = inr (λ h. binders (h 0 a (omega arith)))

all_atomic : (types : List LfType) → HoldsOrNot (All IsAtomic types)
all_atomic [] = inl (All-nil IsAtomic)
all_atomic (a ∷ types) = all_by a types (atomic_or_not a) (all_atomic types)

-- What a constant of a signature has.
module _ (sig : LfSignature) (subject : ℕ) where
  module _ (type : LfType) (type_is : slice_get (constant_types sig) subject ≡ Some type) where
    argument_of : (place : ℕ) (m : IsMajor sig subject (suc place)) → argument_at type place ≡ Some m.argument
    argument_of place m =
        let same : place ≡ m.place = (let e = m.place_is in omega (arith, e)) in
        ap₂ argument_at (Some_inj type_is m.type_is) same ∙ m.argument_is

    atomic_argument : (place : ℕ) (a : LfType) → argument_at type place ≡ Some a → HoldsOrNot (IsAtomic a) → HoldsOrNot (IsMajor sig subject (suc place))
    atomic_argument place a is (inl atomic) =
        inl (record { type = type; place = place; argument = a; type_is = type_is; place_is = refl; argument_is = is; atomic = atomic })
    atomic_argument place a is (inr binders) = inr (λ m. let P : LfType → Type 0 = IsAtomic in binders (subst P (Some_inj (argument_of place m) is) m.atomic))

    with_argument : (place : ℕ) (o : Option LfType) → argument_at type place ≡ o → HoldsOrNot (IsMajor sig subject (suc place))
    with_argument place None none = inr (λ m. None-Some none (argument_of place m))
    with_argument place (Some a) is = atomic_argument place a is (atomic_or_not a)

    at_number : (major : ℕ) → HoldsOrNot (IsMajor sig subject major)
    at_number zero = inr (λ m. let e = m.place_is in omega (arith, e))
    at_number (suc place) = with_argument place (argument_at type place) refl

    module _ (premises : List LfType) (premises_are : Premises type premises) where
      the_premises : (h : HasPremises sig subject) → h.premises ≡ premises
      the_premises h =
          let P : LfType → Type 0 = λ a. Premises a h.premises in
          premises_are_one type h.premises premises (subst P (Some_inj h.type_is type_is) h.premises_are) premises_are

      with_premises : (length premises < 1) ⊎ (1 ≤ length premises) → (4 < length premises) ⊎ (length premises ≤ 4) → HoldsOrNot (All IsAtomic premises) → HoldsOrNot (HasPremises sig subject)
      with_premises (inr some) (inr few) (inl atomic) =
          inl (record { type = type; premises = premises; type_is = type_is; premises_are = premises_are; some = some; few = few; atomic = atomic })
      with_premises (inl none) few atomic = inr (λ h. omega (arith, none, h.some, ap length (the_premises h)))
      with_premises (inr some) (inl many) atomic = inr (λ h. omega (arith, many, h.few, ap length (the_premises h)))
      with_premises (inr some) (inr few) (inr binders) = inr (λ h. let P : List LfType → Type 0 = All IsAtomic in binders (subst P (the_premises h) h.atomic))

    premises_by : HasSome type → HoldsOrNot (HasPremises sig subject)
    premises_by found = with_premises found.0 found.1 (below_or_not (length found.0) 1) (below_or_not 4 (length found.0)) (all_atomic found.0)

    family_by : (f : ℕ) → (conclusion type ≡ f) ⊎ (conclusion type ≢ f) → HoldsOrNot (HasFamily sig f subject)
    family_by f (inl same) = inl (record { type = type; type_is = type_is; family_is = same })
    family_by f (inr differ) = inr (λ h. differ (ap conclusion (Some_inj type_is h.type_is) ∙ h.family_is))

  major_by : (major : ℕ) (o : Option LfType) → slice_get (constant_types sig) subject ≡ o → HoldsOrNot (IsMajor sig subject major)
  major_by major None none = inr (λ m. None-Some none m.type_is)
  major_by major (Some type) is = at_number type is major

  pub major_or_not : (major : ℕ) → HoldsOrNot (IsMajor sig subject major)
  major_or_not major = major_by major (slice_get (constant_types sig) subject) refl

  has_premises_by : (o : Option LfType) → slice_get (constant_types sig) subject ≡ o → HoldsOrNot (HasPremises sig subject)
  has_premises_by None none = inr (λ h. None-Some none h.type_is)
  has_premises_by (Some type) is = premises_by type is (premises_exist type)

  pub premises_or_not : HoldsOrNot (HasPremises sig subject)
  premises_or_not = has_premises_by (slice_get (constant_types sig) subject) refl

  has_family_by : (f : ℕ) (o : Option LfType) → slice_get (constant_types sig) subject ≡ o → HoldsOrNot (HasFamily sig f subject)
  has_family_by f None none = inr (λ h. None-Some none h.type_is)
  has_family_by f (Some type) is = family_by type is f (same_or_not (conclusion type) f)

  pub family_or_not : (f : ℕ) → HoldsOrNot (HasFamily sig f subject)
  family_or_not f = has_family_by f (slice_get (constant_types sig) subject) refl
