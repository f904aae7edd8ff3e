-- Renaming and substitution in types.
use Rattle.std.proofs.Common.{◌≡◌, ℕ, Option, refl, sym, ap₂, subst}
use Rattle.lf_definitions.specs.Syntax.{SimpleType, arrow, LfType, pi, family, shape_of}
use Rattle.lf_definitions.specs.Renaming.{Renaming, lifted, rename_type}
use Rattle.lf_definitions.specs.Shaping.{Scope, under, ShapedType, shaped_pi, shaped_family}
use Rattle.lf_definitions.specs.Substitution.{Replacement, up, SubstitutedType, substituted_pi, substituted_family}
use Rattle.lf_definitions.proofs.Uniqueness.{unique_type}
use Rattle.lf_definitions.proofs.Renaming.{KeepsShapes, KeepsShapes-lifted, ShapedSpine-rename_spine}
use Rattle.lf_definitions.specs.Replacements.{Goes}
use Rattle.lf_definitions.proofs.Totality.{Goes-up, total_spine}
use Rattle.lf_definitions.specs.Replacements.{IsThen}
use Rattle.lf_definitions.proofs.Composition.{IsThen-up, composes_spine}

-- The shape of a type is that of its binders alone.
pub shape_of-rename_type : (a : LfType) (ξ : Renaming) → shape_of (rename_type ξ a) ≡ shape_of a
shape_of-rename_type (pi a b) ξ = ap₂ arrow (shape_of-rename_type a ξ) (shape_of-rename_type b (lifted ξ))
shape_of-rename_type (family f ts) ξ = refl

pub shape_of-SubstitutedType : {σ : Replacement} {a b : LfType} → SubstitutedType σ a b → shape_of b ≡ shape_of a
shape_of-SubstitutedType (substituted_pi p q) = ap₂ arrow (shape_of-SubstitutedType p) (shape_of-SubstitutedType q)
shape_of-SubstitutedType (substituted_family ps) = refl

pub ShapedType-rename_type : {kinds : ℕ → Option SimpleType} {Γ : Scope} {a : LfType} → ShapedType kinds Γ a → (ξ : Renaming) (Δ : Scope) → KeepsShapes ξ Γ Δ → ShapedType kinds Δ (rename_type ξ a)
ShapedType-rename_type {kinds} (shaped_pi {Γ = Γ} {a = a} {b = b} p q) ξ Δ keeps =
    shaped_pi (ShapedType-rename_type p ξ Δ keeps)
    (subst (λ s. ShapedType kinds (under s Δ) (rename_type (lifted ξ) b)) (sym (shape_of-rename_type a ξ))
    (ShapedType-rename_type q (lifted ξ) (under (shape_of a) Δ) (KeepsShapes-lifted ξ Γ Δ (shape_of a) keeps)))
ShapedType-rename_type (shaped_family s e ps) ξ Δ keeps = shaped_family s e (ShapedSpine-rename_spine ps ξ Δ keeps)

-- Every shaped substitution has a result in a shaped type, and it is shaped.
abbrev pub HasTypeResult : (ℕ → Option SimpleType) → Scope → Replacement → LfType → Type 0
HasTypeResult kinds Δ σ a = (b : LfType) × SubstitutedType σ a b × ShapedType kinds Δ b

pub total_type : (p : ℕ) {kinds : ℕ → Option SimpleType} {Γ : Scope} {a : LfType} → ShapedType kinds Γ a → (Δ : Scope) (σ : Replacement) → Goes p Γ Δ σ → HasTypeResult kinds Δ σ a
total_type p {kinds} (shaped_pi {Γ = Γ} {a = a} x y) Δ σ goes =
    let c = total_type p x Δ σ goes in
    let d = total_type p y (under (shape_of a) Δ) (up σ) (Goes-up p Γ Δ σ (shape_of a) goes) in
    (pi c.0 d.0, substituted_pi c.1 d.1, shaped_pi c.2 (subst (λ s. ShapedType kinds (under s Δ) d.0) (sym (shape_of-SubstitutedType c.1)) d.2))
total_type p (shaped_family {f = f} s e ps) Δ σ goes =
    let r = total_spine p ps Δ σ goes in
    (family f r.0, substituted_family r.1, shaped_family s e r.2)

pub ShapedType-SubstitutedType : (p : ℕ) (kinds : ℕ → Option SimpleType) (Γ Δ : Scope) (σ : Replacement) {a b : LfType} → Goes p Γ Δ σ → ShapedType kinds Γ a → SubstitutedType σ a b → ShapedType kinds Δ b
ShapedType-SubstitutedType p kinds Γ Δ σ goes shaped result =
    let r = total_type p shaped Δ σ goes in
    subst (ShapedType kinds Δ) (unique_type r.1 result) r.2

-- Substitutions in types compose.
pub composes_type : (p q : ℕ) {kinds : ℕ → Option SimpleType} {Γ : Scope} {a : LfType} → ShapedType kinds Γ a → (Δ Θ : Scope) (σ τ ρ : Replacement) → Goes p Γ Δ σ → Goes q Δ Θ τ → IsThen σ τ ρ →
    {b c : LfType} → SubstitutedType σ a b → SubstitutedType ρ a c → SubstitutedType τ b c
composes_type p q (shaped_pi {Γ = Γ} {a = d} x y) Δ Θ σ τ ρ goes goes_τ then (substituted_pi v w) (substituted_pi r s) =
    substituted_pi (composes_type p q x Δ Θ σ τ ρ goes goes_τ then v r)
    (composes_type p q y (under (shape_of d) Δ) (under (shape_of d) Θ) (up σ) (up τ) (up ρ) (Goes-up p Γ Δ σ (shape_of d) goes) (Goes-up q Δ Θ τ (shape_of d) goes_τ) (IsThen-up σ τ ρ then) w s)
composes_type p q (shaped_family s e ps) Δ Θ σ τ ρ goes goes_τ then (substituted_family vs) (substituted_family rs) =
    substituted_family (composes_spine p q ps Δ Θ σ τ ρ goes goes_τ then vs rs)
