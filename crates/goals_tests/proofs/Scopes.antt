-- Shapes of families with arguments and of types, from those of terms.
use Rattle.std.proofs.Common.{◌≡◌, ℕ, ◌+◌, ◌<◌, ◌≤◌, List, [], ◌∷◌, ◌++◌, length, get_or, take, take_all, Option, refl, sym, ap, ◌∙◌, subst}
use Rattle.std.proofs.lemmas.List.{append_assoc, append-nil}
use Rattle.lf_definitions.specs.Syntax.{constant, at, Spine, SimpleType, base, LfType, family, pis, Context, shape_of, shapes_of_types}
use Rattle.lf_definitions.specs.Shaping.{Scope, under_all, Shaped, shaped_at, ShapedSpine, ShapedType, shaped_family, shape_at, globals, shapes_in}
use Rattle.lf_definitions.specs.ShapedGoals.{ShapedContext, shaped_empty, shaped_entry}
use Rattle.lf_definitions.proofs.ShapedGoals.{ShapedType-pis}
use Rattle.lf_definitions.proofs.Telescopes.{under_all-append}
use Rattle.unification.proofs.Spreading.{under_all-constant}
use Rattle.lf_terms.specs.declared.ty.Ty.{Ty}
use Rattle.lf_terms.specs.Types.{type_of, types_of}
use Rattle.lf_terms.proofs.TypeLists.{types_of-take_more}

-- A family takes the arguments that the constant of its number takes.
pub family_shaped : (constants : List SimpleType) (metas : List (ℕ × SimpleType)) (variables : List SimpleType) (f : ℕ) (ts : Spine) → Shaped (shapes_in constants metas variables) (at (constant f) ts) base →
    ShapedType (λ g. shape_at constants g) (shapes_in constants metas variables) (family f ts)
family_shaped constants metas variables f ts (shaped_at s known args) = shaped_family s (sym (under_all-constant variables (globals constants metas) f) ∙ known) args

shaped_more : {kinds : ℕ → Option SimpleType} {Γ : Scope} (xs : Context) (a : LfType) → ShapedContext kinds Γ xs → ShapedType kinds (under_all (shapes_of_types xs) Γ) a → ShapedContext kinds Γ (xs ++ a ∷ [])
shaped_more [] a shaped_empty p = shaped_entry p shaped_empty
shaped_more (b ∷ xs) a (shaped_entry q rest) p = shaped_entry q (shaped_more xs a rest p)

shapes_more : (xs : Context) (a : LfType) → shapes_of_types (xs ++ a ∷ []) ≡ shapes_of_types xs ++ shape_of a ∷ []
shapes_more [] a = refl
shapes_more (b ∷ xs) a = ap (λ l. shape_of b ∷ l) (shapes_more xs a)

-- The first of some types are shaped, and these are the shapes of the variables before and theirs.
abbrev pub FirstShaped : (ℕ → Option SimpleType) → Scope → List SimpleType → List Ty → ℕ → List SimpleType → Type 0
FirstShaped kinds Γ variables items i inside = (inside ≡ variables ++ shapes_of_types (types_of (take i items))) × ShapedContext kinds (under_all variables Γ) (types_of (take i items))

pub none_shaped : (kinds : ℕ → Option SimpleType) (Γ : Scope) (variables inside : List SimpleType) (items : List Ty) → inside ≡ variables → FirstShaped kinds Γ variables items 0 inside
none_shaped kinds Γ variables inside items same = (same ∙ sym (append-nil variables), shaped_empty)

pub one_more_shaped : (kinds : ℕ → Option SimpleType) (Γ : Scope) (variables inside new : List SimpleType) (items : List Ty) (i : ℕ) (x : Ty) (s : SimpleType) → i < length items → x ≡ get_or items i x →
    FirstShaped kinds Γ variables items i inside → ShapedType kinds (under_all inside Γ) (type_of x) → s ≡ shape_of (type_of x) → new ≡ inside ++ s ∷ [] → FirstShaped kinds Γ variables items (i + 1) new
one_more_shaped kinds Γ variables inside new items i x s within is before here shape pushed =
    let first = types_of (take i items) in
    let more = types_of-take_more items i x within is in
    let scope : under_all inside Γ ≡ under_all (shapes_of_types first) (under_all variables Γ) = ap (λ l. under_all l Γ) before.0 ∙ under_all-append variables (shapes_of_types first) Γ in (
      pushed ∙ ap (λ t. inside ++ t ∷ []) shape ∙ ap (λ l. l ++ shape_of (type_of x) ∷ []) before.0 ∙ append_assoc variables (shapes_of_types first) (shape_of (type_of x) ∷ [])
          ∙ ap (λ l. variables ++ l) (sym (shapes_more first (type_of x)) ∙ ap shapes_of_types (sym more)),
      subst (ShapedContext kinds (under_all variables Γ)) (sym more) (shaped_more first (type_of x) before.1 (subst (λ Δ. ShapedType kinds Δ (type_of x)) scope here)),
    )

pub all_shaped : (kinds : ℕ → Option SimpleType) (Γ : Scope) (variables inside : List SimpleType) (items : List Ty) (types : Context) (i : ℕ) → length items ≤ i → types_of items ≡ types →
    FirstShaped kinds Γ variables items i inside → (inside ≡ variables ++ shapes_of_types types) × ShapedContext kinds (under_all variables Γ) types
all_shaped kinds Γ variables inside items types i done are first =
    subst (λ ts. (inside ≡ variables ++ shapes_of_types ts) × ShapedContext kinds (under_all variables Γ) ts) (ap types_of (take_all i items done) ∙ are) first

-- What is shaped under the variables and some binders.
pub shaped_inside : (kinds : ℕ → Option SimpleType) (Γ : Scope) (variables inside : List SimpleType) (bs : Context) (f : ℕ) (args : Spine) → inside ≡ variables ++ shapes_of_types bs →
    ShapedType kinds (under_all inside Γ) (family f args) → ShapedType kinds (under_all (shapes_of_types bs) (under_all variables Γ)) (family f args)
shaped_inside kinds Γ variables inside bs f args is here =
    subst (λ Δ. ShapedType kinds Δ (family f args)) (ap (λ l. under_all l Γ) is ∙ under_all-append variables (shapes_of_types bs) Γ) here

pub shaped_over : (kinds : ℕ → Option SimpleType) (Γ : Scope) (variables inside : List SimpleType) (bs : Context) (f : ℕ) (args : Spine) → inside ≡ variables ++ shapes_of_types bs →
    ShapedContext kinds (under_all variables Γ) bs → ShapedType kinds (under_all inside Γ) (family f args) → ShapedType kinds (under_all variables Γ) (pis bs (family f args))
shaped_over kinds Γ variables inside bs f args is context here = ShapedType-pis bs (family f args) context (shaped_inside kinds Γ variables inside bs f args is here)

-- the arguments of a shaped family
pub args_shaped : {kinds : ℕ → Option SimpleType} {Γ : Scope} {f : ℕ} {ts : Spine} → ShapedType kinds Γ (family f ts) → (s : SimpleType) × ShapedSpine Γ ts s
args_shaped (shaped_family s known args) = (s, args)
