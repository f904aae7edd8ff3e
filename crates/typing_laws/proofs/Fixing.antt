-- Renamings and replacements that keep the heads that occur, and replacements that do the same to these.
use Rattle.std.proofs.Common.{◌≡◌, ℕ, zero, Option, Some, ◌∷◌, refl, sym, ap, ap₂, ◌∙◌, subst}
use mathlib.Core.Path.{fun_ext}
use Rattle.lf_definitions.specs.Syntax.{LfHead, bound, LfTerm, lam, at, Spine, arg, SimpleType, shape_of, LfType, pi, family, Context}
use Rattle.lf_definitions.specs.Renaming.{next, Renaming, lifted, rename, rename_spine, rename_type, rename_context}
use Rattle.lf_definitions.specs.Shaping.{Scope, under, Shaped, shaped_lam, shaped_at, ShapedSpine, shaped_none, shaped_arg, ShapedType, shaped_pi, shaped_family}
use Rattle.lf_definitions.specs.Substitution.{stays, rename_image, Replacement, up, Substituted, substituted_lam, substituted_stays, substituted_becomes, SubstitutedSpine, substituted_none, substituted_arg, SubstitutedType, substituted_pi, substituted_family, SubstitutedContext, substituted_empty, substituted_entry}
use Rattle.lf_definitions.specs.ShapedGoals.{ShapedContext, shaped_empty, shaped_entry}
use Rattle.lf_definitions.proofs.Renaming.{extended-next, each_head, same_head, rename_type-same_head, SubstitutedSpine-renames, renames, up-renames}

-- A renaming that keeps the heads that occur changes nothing.
abbrev pub Fixes : Renaming → Scope → Type 0
Fixes ξ Γ = (h : LfHead) (s : SimpleType) → Γ h ≡ Some s → ξ h ≡ h

Fixes-lifted : (ξ : Renaming) (Γ : Scope) (a : SimpleType) → Fixes ξ Γ → Fixes (lifted ξ) (under a Γ)
Fixes-lifted ξ Γ a fixes =
    each_head (λ h. (s : SimpleType) → under a Γ h ≡ Some s → lifted ξ h ≡ h) (λ s e. refl)
    (λ h s e. extended-next (bound zero) (λ k. next (ξ k)) h ∙ ap next (fixes h s (sym (extended-next (Some a) Γ h) ∙ e)))

mutual
  pub fixed : {Γ : Scope} {t : LfTerm} {s : SimpleType} → Shaped Γ t s → (ξ : Renaming) → Fixes ξ Γ → rename ξ t ≡ t
  fixed (shaped_lam {Γ = Γ} {a = a} p) ξ fixes = ap lam (fixed p (lifted ξ) (Fixes-lifted ξ Γ a fixes))
  fixed (shaped_at {h = h} {ts = ts} s e ps) ξ fixes = ap (λ k. at k (rename_spine ξ ts)) (fixes h s e) ∙ ap (at h) (fixed_spine ps ξ fixes)

  pub fixed_spine : {Γ : Scope} {ts : Spine} {s : SimpleType} → ShapedSpine Γ ts s → (ξ : Renaming) → Fixes ξ Γ → rename_spine ξ ts ≡ ts
  fixed_spine shaped_none ξ fixes = refl
  fixed_spine (shaped_arg p ps) ξ fixes = ap₂ arg (fixed p ξ fixes) (fixed_spine ps ξ fixes)

pub fixed_type : {kinds : ℕ → Option SimpleType} {Γ : Scope} {a : LfType} → ShapedType kinds Γ a → (ξ : Renaming) → Fixes ξ Γ → rename_type ξ a ≡ a
fixed_type (shaped_pi {Γ = Γ} {a = a} p q) ξ fixes = ap₂ pi (fixed_type p ξ fixes) (fixed_type q (lifted ξ) (Fixes-lifted ξ Γ (shape_of a) fixes))
fixed_type (shaped_family {f = f} s e ps) ξ fixes = ap (family f) (fixed_spine ps ξ fixes)

pub fixed_context : {kinds : ℕ → Option SimpleType} {Γ : Scope} {ctx : Context} → ShapedContext kinds Γ ctx → (ξ : Renaming) → Fixes ξ Γ → rename_context ξ ctx ≡ ctx
fixed_context shaped_empty ξ fixes = refl
fixed_context (shaped_entry {Γ = Γ} {a = a} p ps) ξ fixes = ap₂ (λ b rest. b ∷ rest) (fixed_type p ξ fixes) (fixed_context ps (lifted ξ) (Fixes-lifted ξ Γ (shape_of a) fixes))

-- Replacements that do the same to the heads that occur have the same results.
abbrev pub Agrees : Scope → Replacement → Replacement → Type 0
Agrees Γ σ ρ = (h : LfHead) (s : SimpleType) → Γ h ≡ Some s → σ h ≡ ρ h

pub Agrees-up : (Γ : Scope) (σ ρ : Replacement) (a : SimpleType) → Agrees Γ σ ρ → Agrees (under a Γ) (up σ) (up ρ)
Agrees-up Γ σ ρ a agrees =
    each_head (λ h. (s : SimpleType) → under a Γ h ≡ Some s → up σ h ≡ up ρ h) (λ s e. refl)
    (λ h s e. extended-next (stays (bound zero)) (λ k. rename_image next (σ k)) h ∙ ap (rename_image next) (agrees h s (sym (extended-next (Some a) Γ h) ∙ e))
    ∙ sym (extended-next (stays (bound zero)) (λ k. rename_image next (ρ k)) h))

mutual
  pub agreed : {Γ : Scope} {t : LfTerm} {s : SimpleType} → Shaped Γ t s → (σ ρ : Replacement) → Agrees Γ σ ρ → {r : LfTerm} → Substituted σ t r → Substituted ρ t r
  agreed (shaped_lam {Γ = Γ} {a = a} p) σ ρ agrees (substituted_lam q) = substituted_lam (agreed p (up σ) (up ρ) (Agrees-up Γ σ ρ a agrees) q)
  agreed (shaped_at {h = h} s e ps) σ ρ agrees (substituted_stays f qs) = substituted_stays (sym (agrees h s e) ∙ f) (agreed_spine ps σ ρ agrees qs)
  agreed (shaped_at {h = h} s e ps) σ ρ agrees (substituted_becomes u vs f qs q) = substituted_becomes u vs (sym (agrees h s e) ∙ f) (agreed_spine ps σ ρ agrees qs) q

  pub agreed_spine : {Γ : Scope} {ts : Spine} {s : SimpleType} → ShapedSpine Γ ts s → (σ ρ : Replacement) → Agrees Γ σ ρ → {vs : Spine} → SubstitutedSpine σ ts vs → SubstitutedSpine ρ ts vs
  agreed_spine shaped_none σ ρ agrees substituted_none = substituted_none
  agreed_spine (shaped_arg p ps) σ ρ agrees (substituted_arg q qs) = substituted_arg (agreed p σ ρ agrees q) (agreed_spine ps σ ρ agrees qs)

pub agreed_type : {kinds : ℕ → Option SimpleType} {Γ : Scope} {a : LfType} → ShapedType kinds Γ a → (σ ρ : Replacement) → Agrees Γ σ ρ → {c : LfType} → SubstitutedType σ a c → SubstitutedType ρ a c
agreed_type (shaped_pi {Γ = Γ} {a = a} x y) σ ρ agrees (substituted_pi q r) =
    substituted_pi (agreed_type x σ ρ agrees q) (agreed_type y (up σ) (up ρ) (Agrees-up Γ σ ρ (shape_of a) agrees) r)
agreed_type (shaped_family s e ps) σ ρ agrees (substituted_family qs) = substituted_family (agreed_spine ps σ ρ agrees qs)

pub agreed_context : {kinds : ℕ → Option SimpleType} {Γ : Scope} {ctx : Context} → ShapedContext kinds Γ ctx → (σ ρ : Replacement) → Agrees Γ σ ρ → {more : Context} → SubstitutedContext σ ctx more → SubstitutedContext ρ ctx more
agreed_context shaped_empty σ ρ agrees substituted_empty = substituted_empty
agreed_context (shaped_entry {Γ = Γ} {a = a} x xs) σ ρ agrees (substituted_entry q qs) =
    substituted_entry (agreed_type x σ ρ agrees q) (agreed_context xs (up σ) (up ρ) (Agrees-up Γ σ ρ (shape_of a) agrees) qs)

-- Where all heads stay, a type is its own result.
pub stays_type : (a : LfType) → SubstitutedType stays a a
stays_type a = subst (SubstitutedType stays a) (rename_type-same_head a) (renamed a same_head)
  where
    renamed : (a : LfType) (ξ : Renaming) → SubstitutedType (renames ξ) a (rename_type ξ a)
    renamed (pi a b) ξ = substituted_pi (renamed a ξ) (subst (λ σ. SubstitutedType σ b (rename_type (lifted ξ) b)) (fun_ext (up-renames ξ)) (renamed b (lifted ξ)))
    renamed (family f ts) ξ = substituted_family (SubstitutedSpine-renames ts ξ)

-- so a type and a context are, where the heads that occur stay
abbrev pub Keeps : Scope → Replacement → Type 0
Keeps Γ σ = (h : LfHead) (s : SimpleType) → Γ h ≡ Some s → σ h ≡ stays h

pub Keeps-up : (Γ : Scope) (σ : Replacement) (a : SimpleType) → Keeps Γ σ → Keeps (under a Γ) (up σ)
Keeps-up Γ σ a keeps =
    each_head (λ h. (s : SimpleType) → under a Γ h ≡ Some s → up σ h ≡ stays h) (λ s e. refl)
    (λ h s e. extended-next (stays (bound zero)) (λ k. rename_image next (σ k)) h ∙ ap (rename_image next) (keeps h s (sym (extended-next (Some a) Γ h) ∙ e)))

pub kept_type : {kinds : ℕ → Option SimpleType} {Γ : Scope} {a : LfType} → ShapedType kinds Γ a → (σ : Replacement) → Keeps Γ σ → SubstitutedType σ a a
kept_type {a = a} p σ keeps = agreed_type p stays σ (λ h s e. sym (keeps h s e)) (stays_type a)

pub kept_context : {kinds : ℕ → Option SimpleType} {Γ : Scope} {ctx : Context} → ShapedContext kinds Γ ctx → (σ : Replacement) → Keeps Γ σ → SubstitutedContext σ ctx ctx
kept_context shaped_empty σ keeps = substituted_empty
kept_context (shaped_entry {Γ = Γ} {a = a} p ps) σ keeps = substituted_entry (kept_type p σ keeps) (kept_context ps (up σ) (Keeps-up Γ σ (shape_of a) keeps))
