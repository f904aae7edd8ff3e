-- Replacements that go from one typing to another go so under binders, and where a typed term is put for a variable.
use Rattle.std.proofs.Common.{◌≡◌, ℕ, zero, suc, ◌<◌, Option, Some, None, option_map, refl, sym, ap, ◌∙◌, subst}
use mathlib.Core.Path.{fun_ext}
use Rattle.lf_definitions.specs.Syntax.{LfHead, bound, constant, metavariable, LfTerm, shape_of, shape_size, LfType, LfKind}
use Rattle.lf_definitions.specs.Renaming.{next, Renaming, rename, rename_type, rename_context, raise, raise_type}
use Rattle.lf_definitions.specs.Shaping.{Scope}
use Rattle.lf_definitions.specs.Substitution.{Image, stays, becomes, rename_image, Replacement, up, push, SubstitutedType}
use Rattle.lf_definitions.specs.Replacements.{Fits, fits_stays, fits_becomes, Goes}
use Rattle.lf_definitions.specs.Typing.{Typing, with_variable, Typed, Kinds, shapes_of}
use Rattle.lf_definitions.specs.ShapedGoals.{ShapedTyping, without_variables}
use Rattle.lf_definitions.specs.Laws.{variables}
use Rattle.lf_definitions.proofs.Renaming.{extended-next, each_head, same_head, rename_type-same_head, SubstitutedType-rename_type}
use Rattle.lf_definitions.proofs.Expansion.{rename_image-same_head}
use Rattle.lf_definitions.proofs.Types.{shape_of-rename_type, shape_of-SubstitutedType}
use Rattle.lf_definitions.proofs.Typing.{Shaped-Typed}
use Rattle.lf_definitions.proofs.Weakening.{Typed-rename}
use Rattle.lf_definitions.proofs.Options.{Some-Some}
use Rattle.typing_laws.specs.TypedReplacements.{HasTypeOf, typed_stays, typed_becomes, GivesType, GoesTyped}
use Rattle.typing_laws.proofs.Fixing.{Fixes, fixed_type, fixed_context, stays_type}

-- Heads that are no variables.
abbrev pub KeepsGlobals : Renaming → Type 0
KeepsGlobals ξ = ((c : ℕ) → ξ (constant c) ≡ constant c) × ((g : ℕ) → ξ (metavariable g) ≡ metavariable g)

pub Fixes-globals : (ξ : Renaming) → KeepsGlobals ξ → (Γ : Scope) → Fixes ξ (without_variables Γ)
Fixes-globals ξ keeps Γ (bound n) s e = absurd cc
Fixes-globals ξ keeps Γ (constant c) s e = keeps.0 c
Fixes-globals ξ keeps Γ (metavariable g) s e = keeps.1 g

pub variables_keep : (v : ℕ → ℕ) → KeepsGlobals (variables v)
variables_keep v = ((λ c. refl), (λ g. refl))

pub next_keeps : KeepsGlobals next
next_keeps = ((λ c. refl), (λ g. refl))

-- Their types are closed, and so are the kinds.
pub closed_constant : (kinds : Kinds) (Γ : Typing) → ShapedTyping kinds Γ → (ξ : Renaming) → KeepsGlobals ξ → (c : ℕ) (a : LfType) → Γ (constant c) ≡ Some a → rename_type ξ a ≡ a
closed_constant kinds Γ shaped ξ keeps c a e = fixed_type (shaped.of_constants c a e) ξ (Fixes-globals ξ keeps (shapes_of Γ))

pub closed_metavariable : (kinds : Kinds) (Γ : Typing) → ShapedTyping kinds Γ → (ξ : Renaming) → KeepsGlobals ξ → (g : ℕ) (a : LfType) → Γ (metavariable g) ≡ Some a → rename_type ξ a ≡ a
closed_metavariable kinds Γ shaped ξ keeps g a e = fixed_type (shaped.of_metavariables g a e) ξ (Fixes-globals ξ keeps (shapes_of Γ))

pub closed_kind : (kinds : Kinds) (Γ : Typing) → ShapedTyping kinds Γ → (ξ : Renaming) → KeepsGlobals ξ → (f : ℕ) (kind : LfKind) → kinds f ≡ Some kind → rename_context ξ kind ≡ kind
closed_kind kinds Γ shaped ξ keeps f kind e = fixed_context (shaped.of_families f kind e) ξ (Fixes-globals ξ keeps (shapes_of Γ))

-- the type of a head from outside a binder, and back
pub with_variable-next : (kinds : Kinds) (Γ : Typing) → ShapedTyping kinds Γ → (a : LfType) (h : LfHead) (b : LfType) → Γ h ≡ Some b → with_variable a Γ (next h) ≡ Some (raise_type b)
with_variable-next kinds Γ shaped a (bound n) b e = ap (option_map raise_type) e
with_variable-next kinds Γ shaped a (constant c) b e = e ∙ ap Some (sym (closed_constant kinds Γ shaped next next_keeps c b e))
with_variable-next kinds Γ shaped a (metavariable g) b e = e ∙ ap Some (sym (closed_metavariable kinds Γ shaped next next_keeps g b e))

abbrev IsRaised : Typing → LfHead → LfType → Type 0
IsRaised Γ h b = (d : LfType) × (Γ h ≡ Some d) × (raise_type d ≡ b)

with_variable-back : (kinds : Kinds) (Γ : Typing) → ShapedTyping kinds Γ → (a : LfType) (h : LfHead) (b : LfType) → with_variable a Γ (next h) ≡ Some b → IsRaised Γ h b
with_variable-back kinds Γ shaped a (bound n) b e = older (Γ (bound n)) refl e
  where
    older : (o : Option LfType) → Γ (bound n) ≡ o → option_map raise_type o ≡ Some b → IsRaised Γ (bound n) b
    older None is e = absurd cc
    older (Some d) is e = (d, is, Some-Some e)
with_variable-back kinds Γ shaped a (constant c) b e = (b, e, closed_constant kinds Γ shaped next next_keeps c b e)
with_variable-back kinds Γ shaped a (metavariable g) b e = (b, e, closed_metavariable kinds Γ shaped next next_keeps g b e)

pub Typed-raise : (kinds : Kinds) (Γ : Typing) → ShapedTyping kinds Γ → (a : LfType) {t : LfTerm} {b : LfType} → Typed Γ t b → Typed (with_variable a Γ) (raise t) (raise_type b)
Typed-raise kinds Γ shaped a {t} {b} typed =
    subst (λ ξ. Typed (with_variable a Γ) (rename ξ t) (rename_type ξ b)) (fun_ext same)
    (Typed-rename typed suc (with_variable a Γ) (
      (λ n d e. ap (option_map raise_type) e ∙ ap (λ ξ. Some (rename_type ξ d)) (sym (fun_ext same))),
      (λ c d e. (e, λ v. closed_constant kinds Γ shaped (variables v) (variables_keep v) c d e)),
      (λ g d e. (e, λ v. closed_metavariable kinds Γ shaped (variables v) (variables_keep v) g d e)),
    ))
  where
    same : (h : LfHead) → variables suc h ≡ next h
    same (bound n) = refl
    same (constant c) = refl
    same (metavariable g) = refl

-- what a replacement does to a type from outside a binder
pub SubstitutedType-raise : {σ : Replacement} {b d : LfType} → SubstitutedType σ b d → SubstitutedType (up σ) (raise_type b) (raise_type d)
SubstitutedType-raise {σ} r = SubstitutedType-rename_type r next next (up σ) (extended-next (stays (bound zero)) (λ h. rename_image next (σ h)))

pub SubstitutedType-push : {σ : Replacement} {b d : LfType} (v : LfTerm) → SubstitutedType σ b d → SubstitutedType (push v σ) (raise_type b) d
SubstitutedType-push {σ} {b} {d} v r =
    subst (SubstitutedType (push v σ) (raise_type b)) (rename_type-same_head d)
    (SubstitutedType-rename_type r next same_head (push v σ) (λ h. extended-next (becomes v) σ h ∙ sym (rename_image-same_head (σ h))))

-- On shapes alone.
pub Fits-HasTypeOf : {Δ : Typing} {p : ℕ} {i : Image} {c : LfType} → HasTypeOf Δ p i c → Fits (shapes_of Δ) p i (shape_of c)
Fits-HasTypeOf (typed_stays e) = fits_stays (ap (option_map shape_of) e)
Fits-HasTypeOf (typed_becomes typed small) = fits_becomes (Shaped-Typed typed) small

pub Goes-GoesTyped : (p : ℕ) (Γ Δ : Typing) (σ : Replacement) → GoesTyped p Γ Δ σ → Goes p (shapes_of Γ) (shapes_of Δ) σ
Goes-GoesTyped p Γ Δ σ goes h s e = known (Γ h) refl e
  where
    known : (o : Option LfType) → Γ h ≡ o → option_map shape_of o ≡ Some s → Fits (shapes_of Δ) p (σ h) s
    known None is e = absurd cc
    known (Some a) is e =
        let g = goes h a is in
        subst (Fits (shapes_of Δ) p (σ h)) (shape_of-SubstitutedType g.1 ∙ Some-Some e) (Fits-HasTypeOf g.2)

-- under a binder
HasTypeOf-raise : (kinds : Kinds) (Δ : Typing) → ShapedTyping kinds Δ → (a : LfType) {p : ℕ} {i : Image} {c : LfType} → HasTypeOf Δ p i c → HasTypeOf (with_variable a Δ) p (rename_image next i) (raise_type c)
HasTypeOf-raise kinds Δ shaped a (typed_stays {k = k} {c = c} e) = typed_stays (with_variable-next kinds Δ shaped a k c e)
HasTypeOf-raise kinds Δ shaped a {p} (typed_becomes {c = c} typed small) =
    typed_becomes (Typed-raise kinds Δ shaped a typed) (subst (λ s. shape_size s < p) (sym (shape_of-rename_type c next)) small)

pub GoesTyped-up : (kinds : Kinds) (p : ℕ) (Γ Δ : Typing) (σ : Replacement) {a c : LfType} → ShapedTyping kinds Γ → ShapedTyping kinds Δ → SubstitutedType σ a c → GoesTyped p Γ Δ σ →
    GoesTyped p (with_variable a Γ) (with_variable c Δ) (up σ)
GoesTyped-up kinds p Γ Δ σ {a} {c} shaped shaped_Δ result goes =
    each_head (λ h. (b : LfType) → with_variable a Γ h ≡ Some b → GivesType (with_variable c Δ) p (up σ) (up σ h) b)
    (λ b e. (raise_type c, subst (λ d. SubstitutedType (up σ) d (raise_type c)) (Some-Some e) (SubstitutedType-raise result), typed_stays refl))
    (λ h b e.
    let x = with_variable-back kinds Γ shaped a h b e in
    let g = goes h x.0 x.1 in (
      raise_type g.0,
      subst (λ d. SubstitutedType (up σ) d (raise_type g.0)) x.2 (SubstitutedType-raise g.1),
      subst (λ i. HasTypeOf (with_variable c Δ) p i (raise_type g.0)) (sym (extended-next (stays (bound zero)) (λ k. rename_image next (σ k)) h)) (HasTypeOf-raise kinds Δ shaped_Δ c g.2),
    ))

-- where a term is put for a variable
pub GoesTyped-push : (kinds : Kinds) (p : ℕ) (Γ Δ : Typing) (σ : Replacement) {a c : LfType} {v : LfTerm} → ShapedTyping kinds Γ → SubstitutedType σ a c → Typed Δ v c → shape_size (shape_of c) < p → GoesTyped p Γ Δ σ →
    GoesTyped p (with_variable a Γ) Δ (push v σ)
GoesTyped-push kinds p Γ Δ σ {a} {c} {v} shaped result typed small goes =
    each_head (λ h. (b : LfType) → with_variable a Γ h ≡ Some b → GivesType Δ p (push v σ) (push v σ h) b)
    (λ b e. (c, subst (λ d. SubstitutedType (push v σ) d c) (Some-Some e) (SubstitutedType-push v result), typed_becomes typed small))
    (λ h b e.
    let x = with_variable-back kinds Γ shaped a h b e in
    let g = goes h x.0 x.1 in
    (g.0, subst (λ d. SubstitutedType (push v σ) d g.0) x.2 (SubstitutedType-push v g.1), subst (λ i. HasTypeOf Δ p i g.0) (sym (extended-next (becomes v) σ h)) g.2))

pub GoesTyped-stays : (p : ℕ) (Γ : Typing) → GoesTyped p Γ Γ stays
GoesTyped-stays p Γ h a e = (a, stays_type a, typed_stays e)
