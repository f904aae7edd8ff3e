-- The shapes of the arguments before a place and of the binders that they are put for.
use Rattle.std.proofs.Common.{◌≡◌, ℕ, zero, suc, ◌<◌, Option, List, [], ◌∷◌, ◌++◌, length, get_or, take, drop, refl, sym, ap, ap₂, ◌∙◌, subst, arith}
use Rattle.lf_definitions.specs.Syntax.{Spine, SimpleType, base, arrows, shape_size, LfType, Context, shape_of, shapes_of_types, args_count}
use Rattle.lf_definitions.specs.Renaming.{Renaming, lifted, next_by, rename_context}
use Rattle.lf_definitions.specs.Shaping.{Scope, under_all, ShapedType, ShapedList}
use Rattle.lf_definitions.specs.Substitution.{stays, push_all, SubstitutedType}
use Rattle.lf_definitions.specs.Typing.{Typing, shapes_of}
use Rattle.lf_definitions.specs.ShapedGoals.{ShapedContext, shaped_entry}
use Rattle.lf_definitions.specs.Replacements.{Goes, fits_stays}
use Rattle.lf_definitions.proofs.Telescopes.{Goes-push_all}
use Rattle.lf_definitions.proofs.Types.{shape_of-rename_type, ShapedType-SubstitutedType}
use Rattle.lf_definitions.proofs.Typing.{ShapedSpine-TypedSpine}
use Rattle.lf_terms.specs.declared.term.Term.{Term}
use Rattle.lf_terms.specs.Terms.{spine_of}
use Rattle.lf_terms.specs.declared.ty.Ty.{Ty}
use Rattle.lf_terms.specs.Types.{type_of, types_of}
use Rattle.lf_terms.specs.declared.shape.Shape.{Shape}
use Rattle.lf_terms.specs.Shapes.{simple_type_of, simple_types_of}
use Rattle.lf_terms.specs.Putting.{putting, Puts, TypeShaped}
use Rattle.lf_terms.proofs.Spines.{args_count-spine_of}
use Rattle.lf_terms.proofs.ShapeLists.{length-simple_types_of}
use Rattle.lf_terms.proofs.TypeLists.{length-types_of}
use Rattle.lf_kernel.specs.ShapedPlaces.{binders_scope}
use Rattle.lf_kernel.proofs.Arguments.{TypedUpTo, types_of-append, split_read}

pub shapes_of-raised : (ξ : Renaming) (bs : Context) → shapes_of_types (rename_context ξ bs) ≡ shapes_of_types bs
shapes_of-raised ξ [] = refl
shapes_of-raised ξ (a ∷ bs) = ap₂ (λ s rest. s ∷ rest) (shape_of-rename_type a ξ) (shapes_of-raised (lifted ξ) bs)

shapes_of_types-take : (ss : List Shape) (types : List Ty) (i : ℕ) → simple_types_of ss ≡ shapes_of_types (types_of types) → simple_types_of (take i ss) ≡ shapes_of_types (types_of (take i types))
shapes_of_types-take ss types zero is = refl
shapes_of_types-take [] [] (suc i) is = refl
shapes_of_types-take [] (t ∷ types) (suc i) is = absurd cc
shapes_of_types-take (s ∷ ss) [] (suc i) is = absurd cc
shapes_of_types-take (s ∷ ss) (t ∷ types) (suc i) is =
    let first : simple_type_of s ≡ shape_of (type_of t) = cc in
    let later : simple_types_of ss ≡ shapes_of_types (types_of types) = cc in
    ap₂ (λ x rest. x ∷ rest) first (shapes_of_types-take ss types i later)

-- the arguments before a place have the shapes of their binders
pub prefix_shaped : (Γ : Typing) (ξ : Renaming) (terms : List Term) (types : List Ty) (ss : List Shape) (i : ℕ) → simple_types_of ss ≡ shapes_of_types (types_of types) → TypedUpTo Γ ξ terms types i →
    ShapedList (shapes_of Γ) (spine_of (take i terms)) (simple_types_of (take i ss))
prefix_shaped Γ ξ terms types ss i is typed =
    subst (ShapedList (shapes_of Γ) (spine_of (take i terms))) (shapes_of-raised ξ (types_of (take i types)) ∙ sym (shapes_of_types-take ss types i is)) (ShapedSpine-TypedSpine typed)

ShapedContext-append : (prefix : Context) (a : LfType) (more : Context) {kinds : ℕ → Option SimpleType} {Θ : Scope} → ShapedContext kinds Θ (prefix ++ a ∷ more) → ShapedType kinds (under_all (shapes_of_types prefix) Θ) a
ShapedContext-append [] a more (shaped_entry p ps) = p
ShapedContext-append (b ∷ prefix) a more (shaped_entry p ps) = ShapedContext-append prefix a more ps

-- and the binder at the place is shaped after those before it
pub binder_shaped : (kinds : ℕ → Option SimpleType) (Θ : Scope) (types : List Ty) (ss : List Shape) (i : ℕ) (ty : Ty) → i < length types → ty ≡ get_or types i ty → simple_types_of ss ≡ shapes_of_types (types_of types) →
    ShapedContext kinds Θ (types_of types) → ShapedType kinds (under_all (simple_types_of (take i ss)) Θ) (type_of ty)
binder_shaped kinds Θ types ss i ty within is shapes_are shaped =
    subst (λ l. ShapedType kinds (under_all l Θ) (type_of ty)) (sym (shapes_of_types-take ss types i shapes_are))
    (ShapedContext-append (types_of (take i types)) (type_of ty) (types_of (drop (suc i) types))
    (subst (ShapedContext kinds Θ) (ap types_of (split_read types i ty within is) ∙ types_of-append (take i types) (ty ∷ drop (suc i) types)) shaped))

goes_outside : (p : ℕ) (Γ : Typing) (by : ℕ) → Goes p (binders_scope Γ by) (shapes_of Γ) (λ h. stays (next_by by h))
goes_outside p Γ by h s e = fits_stays e

-- so the type that is expected there is shaped
pub expected_shaped : (kinds : ℕ → Option SimpleType) (Γ : Typing) (by : ℕ) (sub : Spine) (shapes : List SimpleType) (a c : LfType) → ShapedList (shapes_of Γ) sub shapes →
    ShapedType kinds (under_all shapes (binders_scope Γ by)) a → SubstitutedType (push_all sub (λ h. stays (next_by by h))) a c → ShapedType kinds (shapes_of Γ) c
expected_shaped kinds Γ by sub shapes a c shaped_sub shaped result =
    let p = shape_size (arrows shapes base) in
    ShapedType-SubstitutedType p kinds (under_all shapes (binders_scope Γ by)) (shapes_of Γ) (push_all sub (λ h. stays (next_by by h)))
    (Goes-push_all p shapes sub (binders_scope Γ by) (shapes_of Γ) (λ h. stays (next_by by h)) (goes_outside p Γ by) shaped_sub (omega arith)) shaped result

length-shapes_of_types : (bs : Context) → length (shapes_of_types bs) ≡ length bs
length-shapes_of_types [] = refl
length-shapes_of_types (a ∷ bs) = ap suc (length-shapes_of_types bs)

-- the lists of terms, types and shapes that the code reads
pub terms_and_types : (terms : List Term) (types : List Ty) (args : Spine) (binders : Context) → spine_of terms ≡ args → types_of types ≡ binders → args_count args ≡ length binders → length terms ≡ length types
terms_and_types terms types args binders args_are binders_are count =
    sym (args_count-spine_of terms) ∙ ap args_count args_are ∙ count ∙ ap length (sym binders_are) ∙ length-types_of types

pub shapes_and_types : (ss : List Shape) (types : List Ty) (shapes : List SimpleType) (binders : Context) → simple_types_of ss ≡ shapes → types_of types ≡ binders → shapes ≡ shapes_of_types binders → length ss ≡ length types
shapes_and_types ss types shapes binders shapes_are binders_are is =
    sym (length-simple_types_of ss) ∙ ap length (shapes_are ∙ is) ∙ length-shapes_of_types binders ∙ ap length (sym binders_are) ∙ length-types_of types

pub shapes_of_read : (ss : List Shape) (types : List Ty) (shapes : List SimpleType) (binders : Context) → simple_types_of ss ≡ shapes → types_of types ≡ binders → shapes ≡ shapes_of_types binders → simple_types_of ss ≡ shapes_of_types (types_of types)
shapes_of_read ss types shapes binders shapes_are binders_are is = shapes_are ∙ is ∙ ap shapes_of_types (sym binders_are)

-- what putting the arguments before a place into the binder there asks
pub puts_binder : (kinds : ℕ → Option SimpleType) (Γ : Typing) (by : ℕ) (terms : List Term) (types : List Ty) (ss : List Shape) (i : ℕ) (ty : Ty) → i < length types → ty ≡ get_or types i ty →
    simple_types_of ss ≡ shapes_of_types (types_of types) → ShapedContext kinds (binders_scope Γ by) (types_of types) → TypedUpTo Γ (next_by by) terms types i →
    Puts (spine_of (take i terms)) (simple_types_of (take i ss)) by 0 (TypeShaped (type_of ty))
puts_binder kinds Γ by terms types ss i ty within is shapes_are shaped typed = record {
  outer = binders_scope Γ by;
  target = shapes_of Γ;
  local = [];
  shape = base;
  depth_is = refl;
  keeps = λ h s e. e;
  shaped_sub = prefix_shaped Γ (next_by by) terms types ss i shapes_are typed;
  shaped = (kinds, binder_shaped kinds (binders_scope Γ by) types ss i ty within is shapes_are shaped);
}

pub binder_expected : (kinds : ℕ → Option SimpleType) (Γ : Typing) (by : ℕ) (terms : List Term) (types : List Ty) (ss : List Shape) (i : ℕ) (ty : Ty) (c : LfType) → i < length types → ty ≡ get_or types i ty →
    simple_types_of ss ≡ shapes_of_types (types_of types) → ShapedContext kinds (binders_scope Γ by) (types_of types) → TypedUpTo Γ (next_by by) terms types i →
    SubstitutedType (putting (spine_of (take i terms)) by 0) (type_of ty) c → ShapedType kinds (shapes_of Γ) c
binder_expected kinds Γ by terms types ss i ty c within is shapes_are shaped typed result =
    expected_shaped kinds Γ by (spine_of (take i terms)) (simple_types_of (take i ss)) (type_of ty) c
    (prefix_shaped Γ (next_by by) terms types ss i shapes_are typed) (binder_shaped kinds (binders_scope Γ by) types ss i ty within is shapes_are shaped) result
