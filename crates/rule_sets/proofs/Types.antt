-- Binders of types: how many there are, and the argument at a place.
use Rattle.std.proofs.Common.{◌≡◌, ◌↔◌, ℕ, zero, suc, ◌<◌, List, [], ◌∷◌, length, get_or, Some, refl, sym, ap, ◌∙◌, subst, arith, ◌⊎◌, inl, inr}
use Rattle.std.specs.Prelude.{slice_get}
use Rattle.std.proofs.lemmas.Option.{slice_get_within}
use Rattle.lf_definitions.specs.Syntax.{LfType, family, pis, Spine}
use Rattle.lf_definitions.proofs.Options.{Some-Some}
use Rattle.lf_terms.specs.declared.ty.Ty.{Ty}
use Rattle.lf_terms.specs.Types.{type_of, types_of}
use Rattle.lf_terms.proofs.TypeLists.{length-types_of}
use Rattle.rule_sets.specs.Refusals.{IsAtomic, argument_at}
use Rattle.rule_sets.specs.Acceptance.{HasMajor}

pub atomic_with_none : (bs : List LfType) (f : ℕ) (args : Spine) → length bs ≡ 0 → IsAtomic (pis bs (family f args))
atomic_with_none [] f args none = tt
atomic_with_none (b ∷ bs) f args none = absurd (omega arith)

pub none_with_atomic : (bs : List LfType) (f : ℕ) (args : Spine) → IsAtomic (pis bs (family f args)) → length bs ≡ 0
none_with_atomic [] f args atomic = refl
none_with_atomic (b ∷ bs) f args atomic = absurd atomic

pub argument_at-pis : (bs : List LfType) (f : ℕ) (args : Spine) (k : ℕ) → argument_at (pis bs (family f args)) k ≡ slice_get bs k
argument_at-pis [] f args k = refl
argument_at-pis (b ∷ bs) f args zero = refl
argument_at-pis (b ∷ bs) f args (suc k) = argument_at-pis bs f args k

slice_get-types_of : (ts : List Ty) (k : ℕ) (t : Ty) → k < length ts → t ≡ get_or ts k t → slice_get (types_of ts) k ≡ Some (type_of t)
slice_get-types_of [] k t within is = absurd (omega arith)
slice_get-types_of (u ∷ ts) zero t within is = ap (λ x. Some (type_of x)) (sym is)
slice_get-types_of (u ∷ ts) (suc k) t within is = slice_get-types_of ts k t (omega arith) is

-- the argument of a number is the binder that was read
argument_read : (ts : List Ty) (f : ℕ) (args : Spine) (k : ℕ) (t : Ty) → k < length ts → t ≡ get_or ts k t → argument_at (pis (types_of ts) (family f args)) k ≡ Some (type_of t)
argument_read ts f args k t within is = argument_at-pis (types_of ts) f args k ∙ slice_get-types_of ts k t within is

pub major_read : (ts : List Ty) (bs : List LfType) (f : ℕ) (args : Spine) (major k : ℕ) (t : Ty) → types_of ts ≡ bs → major ≡ suc k → k < length ts → t ≡ get_or ts k t →
    HasMajor (pis bs (family f args)) major ↔ IsAtomic (type_of t)
major_read ts bs f args major k t all number within is =
    let here : argument_at (pis bs (family f args)) k ≡ Some (type_of t) = ap (λ cs. argument_at (pis cs (family f args)) k) (sym all) ∙ argument_read ts f args k t within is in
    let P : LfType → Type 0 = IsAtomic in (
      λ has.
          let same : has.place ≡ k = omega (arith, has.place_is) in
          subst P (Some-Some (sym has.argument_is ∙ ap (argument_at (pis bs (family f args))) same ∙ here)) has.atomic,
      λ atomic. record { place = k; argument = type_of t; place_is = number; argument_is = here; atomic = atomic },
    )

pub no_major : (ts : List Ty) (bs : List LfType) (f : ℕ) (args : Spine) (major : ℕ) → types_of ts ≡ bs → (major ≡ 0) ⊎ (length ts < major) → HasMajor (pis bs (family f args)) major → ⊥
no_major ts bs f args major all out has =
    let within : has.place < length bs = slice_get_within bs has.place has.argument (sym (argument_at-pis bs f args has.place) ∙ has.argument_is) in
    let many : length bs ≡ length ts = ap length (sym all) ∙ length-types_of ts in
    elim out [ inl none ↦ absurd (omega (arith, has.place_is)) | inr past ↦ absurd (omega (arith, has.place_is)) ]
