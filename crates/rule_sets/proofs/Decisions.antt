-- Whether a constant has a major argument of a number, or premises, can be told.
use Rattle.std.proofs.Common.{◌≡◌, ℕ, zero, suc, ◌≤◌, List, [], ◌∷◌, length, Option, Some, None, refl, sym, ap, ap₂, ◌∙◌, subst, arith, ◌⊎◌, inl, inr}
use Rattle.std.specs.Prelude.{slice_get, All}
use Rattle.std.proofs.lemmas.List.Elements.{All-nil, All-cons, All-tail}
use Rattle.lf_definitions.specs.Syntax.{LfHead, bound, constant, metavariable, LfTerm, lam, at, Spine, no_args, arg, LfType, pi, family}
use Rattle.lf_definitions.specs.Signatures.{LfSignature, constant_types}
use Rattle.lf_definitions.specs.Occurrence.{occurs_head, occurs_args, occurs_lam, occurs_first, occurs_later, occurs_binder, occurs_rest, occurs_family, Occurs, OccursSpine, OccursType, Premises, no_premise, witness, premise}
use Rattle.lf_definitions.proofs.Options.{Some-Some}
use Rattle.rule_sets.specs.Refusals.{IsAtomic, argument_at, IsMajor, HasPremises}
use Rattle.rule_sets.proofs.Premises.{premises_are_one}

abbrev pub HoldsOrNot : Type 0 → Type 0
HoldsOrNot P = P ⊎ (P → ⊥)

-- Where a variable occurs.
same_head : (n : ℕ) (k : LfHead) → HoldsOrNot (bound n ≡ k)
same_head n (bound m) = at_numbers (grind arith)
  where
    at_numbers : HoldsOrNot (n ≡ m) → HoldsOrNot (bound n ≡ bound m)
    at_numbers (inl e) = inl (ap bound e)
    at_numbers (inr differ) = inr (λ e. differ cc)
same_head n (constant c) = inr (λ e. cc)
same_head n (metavariable g) = inr (λ e. cc)

in_body : (n : ℕ) (b : LfTerm) → Occurs n (lam b) → Occurs (suc n) b
in_body n b (occurs_lam _ _ o) = o

head_or_args : (n : ℕ) (k : LfHead) (ts : Spine) → Occurs n (at k ts) → (bound n ≡ k) ⊎ OccursSpine n ts
head_or_args n k ts (occurs_head _ _) = inl refl
head_or_args n k ts (occurs_args _ _ _ o) = inr o

at_head : (n : ℕ) (k : LfHead) (ts : Spine) → HoldsOrNot (bound n ≡ k) → HoldsOrNot (OccursSpine n ts) → HoldsOrNot (Occurs n (at k ts))
at_head n k ts (inl same) args = inl (let P : LfHead → Type 0 = λ h. Occurs n (at h ts) in subst P same (occurs_head (bound n) ts))
at_head n k ts (inr differ) (inl here) = inl (occurs_args (bound n) k ts here)
at_head n k ts (inr differ) (inr none) = inr (λ o. elim (head_or_args n k ts o) [ inl same ↦ differ same | inr here ↦ none here ])

at_arg : (n : ℕ) (t : LfTerm) (ts : Spine) → HoldsOrNot (Occurs n t) → HoldsOrNot (OccursSpine n ts) → HoldsOrNot (OccursSpine n (arg t ts))
at_arg n t ts (inl here) later = inl (occurs_first (bound n) t ts here)
at_arg n t ts (inr none) (inl later) = inl (occurs_later (bound n) t ts later)
at_arg n t ts (inr none) (inr absent) = inr not_there
  where
    not_there : OccursSpine n (arg t ts) → ⊥
    not_there (occurs_first _ _ _ o) = none o
    not_there (occurs_later _ _ _ o) = absent o

mutual
  occurs_or_not : (n : ℕ) (t : LfTerm) → HoldsOrNot (Occurs n t)
  occurs_or_not n (lam b) = elim (occurs_or_not (suc n) b) [ inl here ↦ inl (occurs_lam (bound n) b here) | inr none ↦ inr (λ o. none (in_body n b o)) ]
  occurs_or_not n (at k ts) = at_head n k ts (same_head n k) (occurs_in_spine n ts)

  occurs_in_spine : (n : ℕ) (ts : Spine) → HoldsOrNot (OccursSpine n ts)
  occurs_in_spine n no_args = inr (λ o. elim o [ ])
  occurs_in_spine n (arg t ts) = at_arg n t ts (occurs_or_not n t) (occurs_in_spine n ts)

at_binder : (n : ℕ) (a b : LfType) → HoldsOrNot (OccursType n a) → HoldsOrNot (OccursType (suc n) b) → HoldsOrNot (OccursType n (pi a b))
at_binder n a b (inl here) later = inl (occurs_binder (bound n) a b here)
at_binder n a b (inr none) (inl later) = inl (occurs_rest (bound n) a b later)
at_binder n a b (inr none) (inr absent) = inr not_there
  where
    not_there : OccursType n (pi a b) → ⊥
    not_there (occurs_binder _ _ _ o) = none o
    not_there (occurs_rest _ _ _ o) = absent o

in_family : (n f : ℕ) (ts : Spine) → OccursType n (family f ts) → OccursSpine n ts
in_family n f ts (occurs_family _ _ _ o) = o

occurs_in_type : (n : ℕ) (a : LfType) → HoldsOrNot (OccursType n a)
occurs_in_type n (pi a b) = at_binder n a b (occurs_in_type n a) (occurs_in_type (suc n) b)
occurs_in_type n (family f ts) = elim (occurs_in_spine n ts) [ inl here ↦ inl (occurs_family (bound n) f ts here) | inr none ↦ inr (λ o. none (in_family n f ts o)) ]

-- A type has premises, and whether they have binders can be told.
abbrev HasSome : LfType → Type 0
HasSome a = (premises : List LfType) × Premises a premises

at_premise : (a b : LfType) → HoldsOrNot (OccursType 0 b) → HasSome b → HasSome (pi a b)
at_premise a b (inl here) rest = (rest.0, witness a b rest.0 here rest.1)
at_premise a b (inr none) rest = (a ∷ rest.0, premise a b rest.0 none rest.1)

premises_exist : (a : LfType) → HasSome a
premises_exist (pi a b) = at_premise a b (occurs_in_type 0 b) (premises_exist b)
premises_exist (family f ts) = ([], no_premise f ts)

atomic_or_not : (a : LfType) → HoldsOrNot (IsAtomic a)
atomic_or_not (pi a b) = inr (λ h. h)
atomic_or_not (family f args) = inl tt

all_atomic : (types : List LfType) → HoldsOrNot (All IsAtomic types)
all_atomic [] = inl (All-nil IsAtomic)
all_atomic (a ∷ types) =
    elim (atomic_or_not a) [
      | inl here ↦ elim (all_atomic types) [ inl all ↦ inl (All-cons IsAtomic a types here all) | inr other ↦ inr (λ h. other (All-tail IsAtomic a types h)) ]
      | inr binders ↦ inr (λ h. binders (h 0 a (omega arith)))
    ]

-- What a constant does not lack, it has.
module _ (sig : LfSignature) (subject : ℕ) where
  argument_of : (type : LfType) (place : ℕ) → slice_get (constant_types sig) subject ≡ Some type → (m : IsMajor sig subject (suc place)) → argument_at type place ≡ Some m.argument
  argument_of type place is m =
      let same : place ≡ m.place = (let e = m.place_is in omega arith) in ap₂ argument_at (Some-Some (sym is ∙ m.type_is)) same ∙ m.argument_is

  with_argument : (type : LfType) (place : ℕ) → slice_get (constant_types sig) subject ≡ Some type → (o : Option LfType) → argument_at type place ≡ o → HoldsOrNot (IsMajor sig subject (suc place))
  with_argument type place is None none = inr (λ m. let clash : ◌≡◌ {A = Option LfType} None (Some m.argument) = sym none ∙ argument_of type place is m in absurd cc)
  with_argument type place is (Some a) some =
      elim (atomic_or_not a) [
        | inl atomic ↦ inl (record { type = type; place = place; argument = a; type_is = is; place_is = refl; argument_is = some; atomic = atomic })
        | inr other ↦ inr (λ m. let P : LfType → Type 0 = IsAtomic in other (subst P (Some-Some (sym (argument_of type place is m) ∙ some)) m.atomic))
      ]

  with_type : (type : LfType) (major : ℕ) → slice_get (constant_types sig) subject ≡ Some type → HoldsOrNot (IsMajor sig subject major)
  with_type type zero is = inr (λ m. let clash = m.place_is in absurd (omega arith))
  with_type type (suc place) is = with_argument type place is (argument_at type place) refl

  with_constant : (major : ℕ) (o : Option LfType) → slice_get (constant_types sig) subject ≡ o → HoldsOrNot (IsMajor sig subject major)
  with_constant major None none = inr (λ m. let clash : ◌≡◌ {A = Option LfType} None (Some m.type) = sym none ∙ m.type_is in absurd cc)
  with_constant major (Some type) some = with_type type major some

  pub major_there : (major : ℕ) → ((IsMajor sig subject major → ⊥) → ⊥) → IsMajor sig subject major
  major_there major not_none =
      elim (with_constant major (slice_get (constant_types sig) subject) refl) [ inl here ↦ here | inr none ↦ absurd (not_none none) ]

  -- The premises of the constant's type.
  module _ (type : LfType) (premises : List LfType) (type_is : slice_get (constant_types sig) subject ≡ Some type) (premises_are : Premises type premises) where
    the_premises : (h : HasPremises sig subject) → h.premises ≡ premises
    the_premises h =
        let P : LfType → Type 0 = λ a. Premises a h.premises in
        premises_are_one type h.premises premises (subst P (Some-Some (sym h.type_is ∙ type_is)) h.premises_are) premises_are

    with_premises : HoldsOrNot (1 ≤ length premises) → HoldsOrNot (length premises ≤ 4) → HoldsOrNot (All IsAtomic premises) → HoldsOrNot (HasPremises sig subject)
    with_premises (inl some) (inl few) (inl atomic) =
        inl (record { type = type; premises = premises; type_is = type_is; premises_are = premises_are; some = some; few = few; atomic = atomic })
    with_premises (inr none) few atomic = inr (λ h. none (omega (arith, h.some, ap length (the_premises h))))
    with_premises (inl some) (inr many) atomic = inr (λ h. many (omega (arith, h.few, ap length (the_premises h))))
    with_premises (inl some) (inl few) (inr binders) = inr (λ h. let P : List LfType → Type 0 = All IsAtomic in binders (subst P (the_premises h) h.atomic))

  has_premises_or_not : (o : Option LfType) → slice_get (constant_types sig) subject ≡ o → HoldsOrNot (HasPremises sig subject)
  has_premises_or_not None none = inr (λ h. let clash : ◌≡◌ {A = Option LfType} None (Some h.type) = sym none ∙ h.type_is in absurd cc)
  has_premises_or_not (Some type) some =
      let found = premises_exist type in with_premises type found.0 some found.1 (grind arith) (grind arith) (all_atomic found.0)

  pub premises_there : ((HasPremises sig subject → ⊥) → ⊥) → HasPremises sig subject
  premises_there not_none = elim (has_premises_or_not (slice_get (constant_types sig) subject) refl) [ inl here ↦ here | inr none ↦ absurd (not_none none) ]
