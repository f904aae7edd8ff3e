-- Replacements in the binders of types.
use Rattle.std.proofs.Common.{◌≡◌, ℕ, suc, Option, [], ◌∷◌, ◌++◌, length, refl, sym, ap, ◌∙◌, subst}
use Rattle.lf_definitions.specs.Syntax.{LfTerm, Spine, lams, SimpleType, base, arrows, arity, shape_of, shapes_of_types, LfType, pi, family, pis, Context}
use Rattle.lf_definitions.specs.Renaming.{Renaming, lifted, rename_context}
use Rattle.lf_definitions.specs.Shaping.{Scope, under, ShapedSpine, ShapedType, shaped_family}
use Rattle.lf_definitions.specs.Substitution.{Replacement, up, up_by, SubstitutedSpine, SubstitutedType, substituted_pi, substituted_family, SubstitutedContext, substituted_empty, substituted_entry}
use Rattle.lf_definitions.specs.Typing.{Typing, with_variable, with_context, Typed, typed_lam}
use Rattle.lf_definitions.specs.ShapedGoals.{ShapedContext, shaped_empty, shaped_entry}
use Rattle.lf_definitions.specs.Replacements.{Goes}
use Rattle.lf_definitions.proofs.Renaming.{Follows, Follows-up, SubstitutedType-rename_type}
use Rattle.lf_definitions.proofs.Totality.{Goes-up}
use Rattle.lf_definitions.proofs.Types.{shape_of-SubstitutedType, total_type, ShapedType-SubstitutedType}
use Rattle.lf_definitions.proofs.Telescopes.{arity-arrows}

abbrev pub Split : Replacement → Context → ℕ → Spine → LfType → Type 0
Split σ missing f args b = (binders : Context) × (results : Spine) × (b ≡ pis binders (family f results)) × SubstitutedContext σ missing binders × SubstitutedSpine (up_by (length missing) σ) args results

pub split : (missing : Context) (σ : Replacement) (f : ℕ) (args : Spine) {b : LfType} → SubstitutedType σ (pis missing (family f args)) b → Split σ missing f args b
split [] σ f args (substituted_family {vs = vs} qs) = ([], vs, refl, substituted_empty, qs)
split (a ∷ missing) σ f args (substituted_pi {c = c} p q) =
    let r = split missing (up σ) f args q in
    (c ∷ r.0, r.1, ap (pi c) r.2, substituted_entry p r.3, r.4)

pub same_shapes : {σ : Replacement} {bs cs : Context} → SubstitutedContext σ bs cs → shapes_of_types cs ≡ shapes_of_types bs
same_shapes substituted_empty = refl
same_shapes (substituted_entry {c = c} {rest = rest} r rs) = ap (λ ss. shape_of c ∷ ss) (same_shapes rs) ∙ ap (λ s. s ∷ shapes_of_types rest) (shape_of-SubstitutedType r)

pub same_length : {σ : Replacement} {bs cs : Context} → SubstitutedContext σ bs cs → length cs ≡ length bs
same_length substituted_empty = refl
same_length (substituted_entry r rs) = ap suc (same_length rs)

pub length-shapes_of_types : (ctx : Context) → length (shapes_of_types ctx) ≡ length ctx
length-shapes_of_types [] = refl
length-shapes_of_types (a ∷ ctx) = ap suc (length-shapes_of_types ctx)

pub arity_of : (ctx : Context) → arity (arrows (shapes_of_types ctx) base) ≡ length ctx
arity_of ctx = arity-arrows (shapes_of_types ctx) ∙ length-shapes_of_types ctx

-- a type as binders over a family
abbrev pub Whole : LfType → Type 0
Whole b = (bs : Context) × (f : ℕ) × (args : Spine) × (b ≡ pis bs (family f args))

pub whole : (b : LfType) → Whole b
whole (pi a b) = let r = whole b in (a ∷ r.0, r.1, r.2, ap (pi a) r.3)
whole (family f args) = ([], f, args, refl)

pub typed_lams : (cs : Context) (Θ : Typing) (body : LfTerm) (end : LfType) → Typed (with_context cs Θ) body end → Typed Θ (lams (length cs) body) (pis cs end)
typed_lams [] Θ body end p = p
typed_lams (c ∷ cs) Θ body end p = typed_lam (typed_lams cs (with_variable c Θ) body end p)

pub pis-append : (first missing : Context) (end : LfType) → pis (first ++ missing) end ≡ pis first (pis missing end)
pis-append [] missing end = refl
pis-append (a ∷ first) missing end = ap (pi a) (pis-append first missing end)

pub args_of_family : {kinds : ℕ → Option SimpleType} {Δ : Scope} {f : ℕ} {args : Spine} → ShapedType kinds Δ (family f args) → (s : SimpleType) × ShapedSpine Δ args s
args_of_family (shaped_family s e ps) = (s, ps)

-- renamed, and shaped
pub SubstitutedContext-rename_context : {σ : Replacement} {ctx more : Context} → SubstitutedContext σ ctx more → (ξ ζ : Renaming) (τ : Replacement) → Follows ξ ζ σ τ →
    SubstitutedContext τ (rename_context ξ ctx) (rename_context ζ more)
SubstitutedContext-rename_context substituted_empty ξ ζ τ follows = substituted_empty
SubstitutedContext-rename_context (substituted_entry {σ = σ} p ps) ξ ζ τ follows =
    substituted_entry (SubstitutedType-rename_type p ξ ζ τ follows) (SubstitutedContext-rename_context ps (lifted ξ) (lifted ζ) (up τ) (Follows-up ξ ζ σ τ follows))

pub ShapedContext-SubstitutedContext : (p : ℕ) (kinds : ℕ → Option SimpleType) (Γ Δ : Scope) (σ : Replacement) {ctx more : Context} → Goes p Γ Δ σ → ShapedContext kinds Γ ctx → SubstitutedContext σ ctx more → ShapedContext kinds Δ more
ShapedContext-SubstitutedContext p kinds Γ Δ σ goes shaped_empty substituted_empty = shaped_empty
ShapedContext-SubstitutedContext p kinds Γ Δ σ goes (shaped_entry {a = a} x xs) (substituted_entry {c = c} {results = more} q qs) =
    shaped_entry (ShapedType-SubstitutedType p kinds Γ Δ σ goes x q)
    (subst (λ s. ShapedContext kinds (under s Δ) more) (sym (shape_of-SubstitutedType q))
    (ShapedContext-SubstitutedContext p kinds (under (shape_of a) Γ) (under (shape_of a) Δ) (up σ) (Goes-up p Γ Δ σ (shape_of a) goes) xs qs))

-- Every shaped substitution has a result in a shaped context.
pub total_context : (p : ℕ) {kinds : ℕ → Option SimpleType} {Γ : Scope} {ctx : Context} → ShapedContext kinds Γ ctx → (Δ : Scope) (σ : Replacement) → Goes p Γ Δ σ → (more : Context) × SubstitutedContext σ ctx more
total_context p shaped_empty Δ σ goes = ([], substituted_empty)
total_context p (shaped_entry {Γ = Γ} {a = a} x xs) Δ σ goes =
    let c = total_type p x Δ σ goes in
    let r = total_context p xs (under (shape_of a) Δ) (up σ) (Goes-up p Γ Δ σ (shape_of a) goes) in
    (c.0 ∷ r.0, substituted_entry c.1 r.1)
