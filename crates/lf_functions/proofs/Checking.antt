-- A term is typed exactly where the test says so, if all types are shaped.
use Rattle.std.proofs.Common.{◌≡◌, ℕ, ◌≤◌, Option, Some, None, List, [], ◌∷◌, refl, sym, ap, ◌∙◌, subst, arith}
use Rattle.std.specs.Prelude.{true}
use Rattle.std.proofs.lemmas.Bool.{and_parts, and_from}
use Rattle.lf_definitions.specs.Syntax.{LfHead, LfTerm, lam, at, Spine, no_args, arg, LfType, pi, family, pis, shape_of, shape_size}
use Rattle.lf_definitions.specs.Shaping.{Scope, under, Shaped, ShapedType}
use Rattle.lf_definitions.specs.ShapedGoals.{ShapedTyping}
use Rattle.lf_definitions.specs.Substitution.{Replacement, stays, push, push_all, SubstitutedSpine, SubstitutedType, substituted_family}
use Rattle.lf_definitions.specs.Replacements.{Goes}
use Rattle.lf_definitions.specs.Typing.{Typing, with_variable, Typed, typed_lam, typed_at, TypedSpine, typed_none, typed_arg, Kinds, shapes_of, shapes_of_kinds}
use Rattle.lf_definitions.proofs.Uniqueness.{unique_type}
use Rattle.lf_definitions.proofs.Totality.{Goes-stays, Goes-push}
use Rattle.lf_definitions.proofs.Types.{shape_of-SubstitutedType, ShapedType-SubstitutedType}
use Rattle.lf_definitions.proofs.Typing.{Shaped-Typed, shaped_argument, shaped_result}
use Rattle.lf_definitions.proofs.ShapedGoals.{ShapedTyping-head, ShapedTyping-with_variable, shapes_of-under}
use Rattle.typing_laws.specs.TypedReplacements.{IsShapedIn}
use Rattle.lf_functions.specs.Replacing.{replaced_in_type}
use Rattle.lf_functions.specs.Checking.{passes, is_typed, takes_to}
use Rattle.lf_functions.proofs.Replaced.{SubstitutedType-replaced_in_type}
use Rattle.lf_functions.proofs.Equality.{equal_types-true, equal_types-from}

-- A type takes arguments to a result: its binders, and what is under them.
abbrev TakesTo : Typing → Replacement → Spine → LfType → ℕ → Spine → Type 0
TakesTo Γ σ ts a f results = (binders : List LfType) × (args : Spine) × (a ≡ pis binders (family f args)) × TypedSpine Γ σ ts binders × SubstitutedSpine (push_all ts σ) args results

no_more : {σ : Replacement} {a b : LfType} → SubstitutedType σ a b → (f : ℕ) (results : Spine) → b ≡ family f results → (args : Spine) × (a ≡ family f args) × SubstitutedSpine σ args results
no_more {σ} (substituted_family {ts = ts} ps) f results e = (ts, ap (λ g. family g ts) (cc), subst (SubstitutedSpine σ ts) (cc) ps)
no_more _ f results e = absurd cc

at_head : (Γ : Typing) (h : LfHead) (ts : Spine) (f : ℕ) (results : Spine) (o : Option LfType) → Γ h ≡ o → passes o (λ a. takes_to (shape_size (shape_of a)) Γ stays ts a (family f results)) ≡ true →
    ((a : LfType) → Γ h ≡ Some a → takes_to (shape_size (shape_of a)) Γ stays ts a (family f results) ≡ true → TakesTo Γ stays ts a f results) → Typed Γ (at h ts) (family f results)
at_head Γ h ts f results None is e arguments = absurd cc
at_head Γ h ts f results (Some a) is e arguments = let r = arguments a is e in typed_at r.0 r.1 (is ∙ ap Some r.2) r.3 r.4

module _ (kinds : Kinds) where
  shaped_under : (Γ : Typing) (a c : LfType) → IsShapedIn kinds Γ (pi a c) → IsShapedIn kinds (with_variable a Γ) c
  shaped_under Γ a c p = subst (λ Δ. ShapedType (shapes_of_kinds kinds) Δ c) (sym (shapes_of-under Γ a)) (shaped_result p)

  -- what is known of an argument once it is typed
  goes_further : (depth : ℕ) (Γ : Typing) (Θ : Scope) (σ : Replacement) → Goes depth Θ (shapes_of Γ) σ → (a b c : LfType) → shape_size (shape_of (pi a b)) ≤ depth → SubstitutedType σ a c → (t : LfTerm) → Typed Γ t c →
      Goes depth (under (shape_of a) Θ) (shapes_of Γ) (push t σ)
  goes_further depth Γ Θ σ goes a b c small result t typed =
      Goes-push depth Θ (shapes_of Γ) σ (shape_of a) t goes (subst (Shaped (shapes_of Γ) t) (shape_of-SubstitutedType result) (Shaped-Typed typed)) (omega arith)

  mutual
    pub Typed-is_typed : (t : LfTerm) (a : LfType) (Γ : Typing) → ShapedTyping kinds Γ → IsShapedIn kinds Γ a → is_typed Γ t a ≡ true → Typed Γ t a
    Typed-is_typed (lam b) (pi a c) Γ shaped of_type e =
        typed_lam (Typed-is_typed b c (with_variable a Γ) (ShapedTyping-with_variable kinds Γ a shaped (shaped_argument of_type)) (shaped_under Γ a c of_type) e)
    Typed-is_typed (lam b) (family f results) Γ shaped of_type e = absurd cc
    Typed-is_typed (at h ts) (pi a c) Γ shaped of_type e = absurd cc
    Typed-is_typed (at h ts) (family f results) Γ shaped of_type e =
        at_head Γ h ts f results (Γ h) refl e
        (λ a is taken. TakesTo-takes_to ts (shape_size (shape_of a)) Γ shaped (shapes_of Γ) stays (Goes-stays (shape_size (shape_of a)) (shapes_of Γ)) a (ShapedTyping-head kinds Γ shaped h a is) (omega arith) f results taken)

    TakesTo-takes_to : (ts : Spine) (depth : ℕ) (Γ : Typing) → ShapedTyping kinds Γ → (Θ : Scope) (σ : Replacement) → Goes depth Θ (shapes_of Γ) σ → (a : LfType) → ShapedType (shapes_of_kinds kinds) Θ a →
        shape_size (shape_of a) ≤ depth → (f : ℕ) (results : Spine) → takes_to depth Γ σ ts a (family f results) ≡ true → TakesTo Γ σ ts a f results
    TakesTo-takes_to no_args depth Γ shaped Θ σ goes a of_type small f results e =
        let r = no_more (SubstitutedType-replaced_in_type depth of_type (shapes_of Γ) σ goes) f results (equal_types-true (replaced_in_type depth σ a) (family f results) e) in
        ([], r.0, r.1, typed_none, r.2)
    TakesTo-takes_to (arg t ts) depth Γ shaped Θ σ goes (pi a b) of_type small f results e =
        let c = replaced_in_type depth σ a in
        let parts = and_parts (is_typed Γ t c) (takes_to depth Γ (push t σ) ts b (family f results)) e in
        let result : SubstitutedType σ a c = SubstitutedType-replaced_in_type depth (shaped_argument of_type) (shapes_of Γ) σ goes in
        let typed = Typed-is_typed t c Γ shaped (ShapedType-SubstitutedType depth (shapes_of_kinds kinds) Θ (shapes_of Γ) σ goes (shaped_argument of_type) result) parts.0 in
        let rest = TakesTo-takes_to ts depth Γ shaped (under (shape_of a) Θ) (push t σ) (goes_further depth Γ Θ σ goes a b c small result t typed) b (shaped_result of_type) (omega arith) f results parts.1 in
        (a ∷ rest.0, rest.1, ap (pi a) {y = pis rest.0 (family f rest.1)} rest.2, typed_arg c result typed rest.3, rest.4)
    TakesTo-takes_to (arg t ts) depth Γ shaped Θ σ goes (family g args) of_type small f results e = absurd cc

  mutual
    pub is_typed-Typed : {Γ : Typing} {t : LfTerm} {a : LfType} → Typed Γ t a → ShapedTyping kinds Γ → IsShapedIn kinds Γ a → is_typed Γ t a ≡ true
    is_typed-Typed (typed_lam {Γ = Γ} {a = a} {c = c} p) shaped of_type =
        is_typed-Typed p (ShapedTyping-with_variable kinds Γ a shaped (shaped_argument of_type)) (shaped_under Γ a c of_type)
    is_typed-Typed (typed_at {Γ = Γ} {h = h} {ts = ts} {results = results} {f = f} bs args e ps result) shaped of_type =
        let type = pis bs (family f args) in
        let depth = shape_size (shape_of type) in
        ap (λ o. passes o (λ a. takes_to (shape_size (shape_of a)) Γ stays ts a (family f results))) e
        ∙ takes_to-TypedSpine ps shaped depth (shapes_of Γ) (Goes-stays depth (shapes_of Γ)) f args results (ShapedTyping-head kinds Γ shaped h type e) (omega arith) result

    takes_to-TypedSpine : {Γ : Typing} {σ : Replacement} {ts : Spine} {bs : List LfType} → TypedSpine Γ σ ts bs → ShapedTyping kinds Γ → (depth : ℕ) (Θ : Scope) → Goes depth Θ (shapes_of Γ) σ →
        (f : ℕ) (args results : Spine) → ShapedType (shapes_of_kinds kinds) Θ (pis bs (family f args)) → shape_size (shape_of (pis bs (family f args))) ≤ depth → SubstitutedSpine (push_all ts σ) args results →
        takes_to depth Γ σ ts (pis bs (family f args)) (family f results) ≡ true
    takes_to-TypedSpine (typed_none {Γ = Γ} {σ = σ}) shaped depth Θ goes f args results of_type small result =
        equal_types-from (replaced_in_type depth σ (family f args)) (family f results) (unique_type (SubstitutedType-replaced_in_type depth of_type (shapes_of Γ) σ goes) (substituted_family result))
    takes_to-TypedSpine (typed_arg {Γ = Γ} {σ = σ} {t = t} {ts = ts} {a = a} {rest = rest} c result typed ps) shaped depth Θ goes f args results of_type small last =
        let b = pis rest (family f args) in
        let same : replaced_in_type depth σ a ≡ c = unique_type (SubstitutedType-replaced_in_type depth (shaped_argument of_type) (shapes_of Γ) σ goes) result in
        and_from (is_typed Γ t (replaced_in_type depth σ a)) (takes_to depth Γ (push t σ) ts b (family f results))
        (ap (is_typed Γ t) same ∙ is_typed-Typed typed shaped (ShapedType-SubstitutedType depth (shapes_of_kinds kinds) Θ (shapes_of Γ) σ goes (shaped_argument of_type) result))
        (takes_to-TypedSpine ps shaped depth (under (shape_of a) Θ) (goes_further depth Γ Θ σ goes a b c small result t typed) f args results (shaped_result of_type) (omega arith) last)
