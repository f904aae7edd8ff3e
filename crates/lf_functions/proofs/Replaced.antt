-- What a replacement makes of something shaped is its result, where the terms that it puts have shapes smaller than the depth.
use Rattle.std.proofs.Common.{◌≡◌, ℕ, zero, suc, ◌<◌, ◌≤◌, refl, arith, Option}
use Rattle.lf_definitions.specs.Syntax.{LfHead, LfTerm, at, Spine, SimpleType, base, shape_size, LfType, shape_of, LfAtom, atomic, Context}
use Rattle.lf_definitions.specs.Shaping.{Scope, under, Shaped, shaped_lam, shaped_at, ShapedSpine, shaped_none, shaped_arg, ShapedType, shaped_pi, shaped_family}
use Rattle.lf_definitions.specs.ShapedGoals.{ShapedContext, shaped_empty, shaped_entry}
use Rattle.lf_definitions.specs.Substitution.{Image, stays, becomes, Replacement, up, push, Substituted, substituted_lam, substituted_stays, substituted_becomes, SubstitutedSpine, substituted_none, substituted_arg, Applied, applied_none, applied_arg, SubstitutedType, substituted_pi, substituted_family, SubstitutedContext, substituted_empty, substituted_entry}
use Rattle.lf_definitions.specs.Replacements.{Fits, fits_becomes, Goes}
use Rattle.lf_definitions.proofs.Totality.{Goes-more, Goes-stays, Goes-up, Goes-push, ShapedSpine-SubstitutedSpine}
use Rattle.lf_functions.specs.Replacing.{applied_term, applied_image, replaced_term, replaced_spine, nested, replaced, replaced_in_spine, replaced_in_type, replaced_in_atom, replaced_in_context}

module _ (depth : ℕ) (inside : (m : ℕ) → m < depth → (Γ Δ : Scope) (σ : Replacement) (u : LfTerm) (s : SimpleType) → Shaped Γ u s → Goes m Γ Δ σ → Substituted σ u (nested depth σ u)) where
  Applied-applied_term : (m : ℕ) → m < depth → (Δ : Scope) {vs : Spine} {s : SimpleType} → ShapedSpine Δ vs s → shape_size s ≤ m →
      (Γ : Scope) {u : LfTerm} → Shaped Γ u s → (σ : Replacement) → Goes m Γ Δ σ → Applied σ u vs (applied_term (nested depth) σ u vs)
  Applied-applied_term m less Δ shaped_none small Γ {u} shaped σ goes = applied_none (inside m less Γ Δ σ u base shaped goes)
  Applied-applied_term m less Δ (shaped_arg {t = v} {a = a} w ws) small Γ (shaped_lam shaped) σ goes =
      applied_arg (Applied-applied_term m less Δ ws (omega arith) (under a Γ) shaped (push v σ) (Goes-push m Γ Δ σ a v goes w (omega arith)))

  Substituted-applied_image : (Δ : Scope) (σ : Replacement) (h : LfHead) (ts vs : Spine) (s : SimpleType) (i : Image) → σ h ≡ i → Fits Δ depth i s → SubstitutedSpine σ ts vs → ShapedSpine Δ vs s →
      Substituted σ (at h ts) (applied_image (nested depth) i vs)
  Substituted-applied_image Δ σ h ts vs s (stays k) e fits results shaped = substituted_stays e results
  Substituted-applied_image Δ σ h ts vs s (becomes u) e (fits_becomes shaped_u small) results shaped =
      substituted_becomes u vs e results (Applied-applied_term (shape_size s) small Δ shaped (omega arith) Δ shaped_u stays (Goes-stays (shape_size s) Δ))

  mutual
    Substituted-replaced_term : {Γ : Scope} {t : LfTerm} {s : SimpleType} → Shaped Γ t s → (Δ : Scope) (σ : Replacement) → Goes depth Γ Δ σ → Substituted σ t (replaced_term (nested depth) σ t)
    Substituted-replaced_term (shaped_lam {Γ = Γ} {a = a} b) Δ σ goes = substituted_lam (Substituted-replaced_term b (under a Δ) (up σ) (Goes-up depth Γ Δ σ a goes))
    Substituted-replaced_term (shaped_at {Γ = Γ} {h = h} {ts = ts} s e ps) Δ σ goes =
        let results = SubstitutedSpine-replaced_spine ps Δ σ goes in
        Substituted-applied_image Δ σ h ts (replaced_spine (nested depth) σ ts) s (σ h) refl (goes h s e) results (ShapedSpine-SubstitutedSpine depth Γ Δ σ goes ps results)

    SubstitutedSpine-replaced_spine : {Γ : Scope} {ts : Spine} {s : SimpleType} → ShapedSpine Γ ts s → (Δ : Scope) (σ : Replacement) → Goes depth Γ Δ σ → SubstitutedSpine σ ts (replaced_spine (nested depth) σ ts)
    SubstitutedSpine-replaced_spine shaped_none Δ σ goes = substituted_none
    SubstitutedSpine-replaced_spine (shaped_arg b bs) Δ σ goes = substituted_arg (Substituted-replaced_term b Δ σ goes) (SubstitutedSpine-replaced_spine bs Δ σ goes)

Substituted-nested : (depth m : ℕ) → m < depth → (Γ Δ : Scope) (σ : Replacement) (u : LfTerm) (s : SimpleType) → Shaped Γ u s → Goes m Γ Δ σ → Substituted σ u (nested depth σ u)
Substituted-nested zero m less Γ Δ σ u s shaped goes = absurd (omega arith)
Substituted-nested (suc depth) m less Γ Δ σ u s shaped goes = Substituted-replaced_term depth (Substituted-nested depth) shaped Δ σ (Goes-more m depth Γ Δ σ (omega arith) goes)

pub Substituted-replaced : (depth : ℕ) {Γ : Scope} {t : LfTerm} {s : SimpleType} → Shaped Γ t s → (Δ : Scope) (σ : Replacement) → Goes depth Γ Δ σ → Substituted σ t (replaced depth σ t)
unfolding replaced
Substituted-replaced depth shaped Δ σ goes = Substituted-replaced_term depth (Substituted-nested depth) shaped Δ σ goes

pub SubstitutedSpine-replaced_in_spine : (depth : ℕ) {Γ : Scope} {ts : Spine} {s : SimpleType} → ShapedSpine Γ ts s → (Δ : Scope) (σ : Replacement) → Goes depth Γ Δ σ →
    SubstitutedSpine σ ts (replaced_in_spine depth σ ts)
unfolding replaced_in_spine
SubstitutedSpine-replaced_in_spine depth shaped Δ σ goes = SubstitutedSpine-replaced_spine depth (Substituted-nested depth) shaped Δ σ goes

pub SubstitutedType-replaced_in_type : (depth : ℕ) {kinds : ℕ → Option SimpleType} {Γ : Scope} {a : LfType} → ShapedType kinds Γ a → (Δ : Scope) (σ : Replacement) → Goes depth Γ Δ σ →
    SubstitutedType σ a (replaced_in_type depth σ a)
unfolding replaced_in_type
SubstitutedType-replaced_in_type depth (shaped_pi {Γ = Γ} {a = a} p q) Δ σ goes =
    substituted_pi (SubstitutedType-replaced_in_type depth p Δ σ goes) (SubstitutedType-replaced_in_type depth q (under (shape_of a) Δ) (up σ) (Goes-up depth Γ Δ σ (shape_of a) goes))
SubstitutedType-replaced_in_type depth (shaped_family s e ps) Δ σ goes = substituted_family (SubstitutedSpine-replaced_in_spine depth ps Δ σ goes)

pub SubstitutedType-replaced_in_atom : (depth : ℕ) (kinds : ℕ → Option SimpleType) (Γ : Scope) (a : LfAtom) → ShapedType kinds Γ (atomic a) → (Δ : Scope) (σ : Replacement) → Goes depth Γ Δ σ →
    SubstitutedType σ (atomic a) (atomic (replaced_in_atom depth σ a))
unfolding replaced_in_atom
SubstitutedType-replaced_in_atom depth kinds Γ a (shaped_family s e ps) Δ σ goes = substituted_family (SubstitutedSpine-replaced_in_spine depth ps Δ σ goes)

pub SubstitutedContext-replaced_in_context : (depth : ℕ) {kinds : ℕ → Option SimpleType} {Γ : Scope} {ctx : Context} → ShapedContext kinds Γ ctx → (Δ : Scope) (σ : Replacement) → Goes depth Γ Δ σ →
    SubstitutedContext σ ctx (replaced_in_context depth σ ctx)
unfolding replaced_in_context
SubstitutedContext-replaced_in_context depth shaped_empty Δ σ goes = substituted_empty
SubstitutedContext-replaced_in_context depth (shaped_entry {Γ = Γ} {a = a} p ps) Δ σ goes =
    substituted_entry (SubstitutedType-replaced_in_type depth p Δ σ goes) (SubstitutedContext-replaced_in_context depth ps (under (shape_of a) Δ) (up σ) (Goes-up depth Γ Δ σ (shape_of a) goes))
