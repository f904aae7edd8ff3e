-- A shaped substitution has a result, and the result is shaped.
use Rattle.std.proofs.Common.{◌≡◌, ℕ, zero, suc, ◌<◌, ◌≤◌, Some, refl, sym, ◌∙◌, subst, arith}
use Rattle.lf_definitions.specs.Syntax.{LfHead, bound, LfTerm, lam, at, Spine, no_args, arg, SimpleType, base, shape_size}
use Rattle.lf_definitions.specs.Renaming.{next}
use Rattle.lf_definitions.specs.Shaping.{Scope, under, Shaped, shaped_lam, shaped_at, ShapedSpine, shaped_none, shaped_arg}
use Rattle.lf_definitions.specs.Substitution.{Image, stays, becomes, rename_image, Replacement, up, push, Substituted, substituted_lam, substituted_stays, substituted_becomes, SubstitutedSpine, substituted_none, substituted_arg, Applied, applied_none, applied_arg}
use Rattle.lf_definitions.specs.Replacements.{Fits, fits_stays, fits_becomes, Goes}
use Rattle.lf_definitions.proofs.Uniqueness.{unique, unique_spine}
use Rattle.lf_definitions.proofs.Renaming.{extended-next, each_head, Shaped-raise}
use Rattle.lf_definitions.proofs.Options.{Some-Some}

pub Fits-next : {Δ : Scope} {p : ℕ} {i : Image} {s : SimpleType} (a : SimpleType) → Fits Δ p i s → Fits (under a Δ) p (rename_image next i) s
Fits-next {Δ} a (fits_stays {k = k} e) = fits_stays (extended-next (Some a) Δ k ∙ e)
Fits-next a (fits_becomes shaped small) = fits_becomes (Shaped-raise a shaped) small

pub Fits-more : {Δ : Scope} {p : ℕ} {i : Image} {s : SimpleType} (q : ℕ) → p ≤ q → Fits Δ p i s → Fits Δ q i s
Fits-more q le (fits_stays e) = fits_stays e
Fits-more q le (fits_becomes shaped small) = fits_becomes shaped (omega arith)

pub Goes-more : (p q : ℕ) (Γ Δ : Scope) (σ : Replacement) → p ≤ q → Goes p Γ Δ σ → Goes q Γ Δ σ
Goes-more p q Γ Δ σ le goes h s e = Fits-more q le (goes h s e)

pub Goes-stays : (p : ℕ) (Γ : Scope) → Goes p Γ Γ stays
Goes-stays p Γ h s e = fits_stays e

pub Goes-up : (p : ℕ) (Γ Δ : Scope) (σ : Replacement) (a : SimpleType) → Goes p Γ Δ σ → Goes p (under a Γ) (under a Δ) (up σ)
Goes-up p Γ Δ σ a goes =
    each_head (λ h. (s : SimpleType) → under a Γ h ≡ Some s → Fits (under a Δ) p (up σ h) s)
    (λ s e. fits_stays e)
    (λ h s e. subst (λ i. Fits (under a Δ) p i s) (sym (extended-next (stays (bound zero)) (λ k. rename_image next (σ k)) h))
    (Fits-next a (goes h s (sym (extended-next (Some a) Γ h) ∙ e))))

pub Goes-push : (p : ℕ) (Γ Δ : Scope) (σ : Replacement) (a : SimpleType) (v : LfTerm) → Goes p Γ Δ σ → Shaped Δ v a → shape_size a < p → Goes p (under a Γ) Δ (push v σ)
Goes-push p Γ Δ σ a v goes shaped small =
    each_head (λ h. (s : SimpleType) → under a Γ h ≡ Some s → Fits Δ p (push v σ h) s)
    (λ s e. subst (λ c. Fits Δ p (becomes v) c) (Some-Some e) (fits_becomes shaped small))
    (λ h s e. subst (λ i. Fits Δ p i s) (sym (extended-next (becomes v) σ h)) (goes h s (sym (extended-next (Some a) Γ h) ∙ e)))

abbrev pub HasResult : Scope → Replacement → LfTerm → SimpleType → Type 0
HasResult Δ σ t s = (r : LfTerm) × Substituted σ t r × Shaped Δ r s

abbrev pub HasResults : Scope → Replacement → Spine → SimpleType → Type 0
HasResults Δ σ ts s = (rs : Spine) × SubstitutedSpine σ ts rs × ShapedSpine Δ rs s

abbrev pub HasApplied : Scope → Replacement → LfTerm → Spine → Type 0
HasApplied Δ σ u vs = (r : LfTerm) × Applied σ u vs r × Shaped Δ r base

-- every shaped term has a shaped result, where what is put is of a shape below the bound
abbrev pub IsTotal : ℕ → Type 0
IsTotal p = (Γ : Scope) (t : LfTerm) (s : SimpleType) → Shaped Γ t s → (Δ : Scope) (σ : Replacement) → Goes p Γ Δ σ → HasResult Δ σ t s

-- Then so has a term that is applied to arguments of smaller shapes.
pub applied_total : (q : ℕ) → IsTotal q → {Δ : Scope} {vs : Spine} {s : SimpleType} → ShapedSpine Δ vs s → shape_size s ≤ q →
    {Γ : Scope} {u : LfTerm} → Shaped Γ u s → (σ : Replacement) → Goes q Γ Δ σ → HasApplied Δ σ u vs
applied_total q total {Δ} shaped_none small p σ goes = let r = total _ _ _ p Δ σ goes in (r.0, applied_none r.1, r.2)
applied_total q total {Δ} (shaped_arg {t = v} {a = a} w ws) small {Γ} (shaped_lam p) σ goes =
    let r = applied_total q total ws (omega arith) p (push v σ) (Goes-push q Γ Δ σ a v goes w (omega arith)) in
    (r.0, applied_arg r.1, r.2)

module _ (p : ℕ) (below : (q : ℕ) → q < p → IsTotal q) where
  at_head : (Δ : Scope) (σ : Replacement) (h : LfHead) (ts : Spine) (s : SimpleType) (i : Image) → σ h ≡ i → Fits Δ p i s → HasResults Δ σ ts s → HasResult Δ σ (at h ts) base
  at_head Δ σ h ts s (stays k) e (fits_stays f) rs = (at k rs.0, substituted_stays e rs.1, shaped_at s f rs.2)
  at_head Δ σ h ts s (becomes u) e (fits_becomes shaped small) rs =
      let r = applied_total (shape_size s) (below (shape_size s) small) rs.2 (omega arith) shaped stays (Goes-stays (shape_size s) Δ) in
      (r.0, substituted_becomes u rs.0 e rs.1 r.1, r.2)

  mutual
    step : {Γ : Scope} {t : LfTerm} {s : SimpleType} → Shaped Γ t s → (Δ : Scope) (σ : Replacement) → Goes p Γ Δ σ → HasResult Δ σ t s
    step (shaped_lam {Γ = Γ} {a = a} b) Δ σ goes =
        let r = step b (under a Δ) (up σ) (Goes-up p Γ Δ σ a goes) in
        (lam r.0, substituted_lam r.1, shaped_lam r.2)
    step (shaped_at {h = h} {ts = ts} s e ps) Δ σ goes = at_head Δ σ h ts s (σ h) refl (goes h s e) (step_spine ps Δ σ goes)

    step_spine : {Γ : Scope} {ts : Spine} {s : SimpleType} → ShapedSpine Γ ts s → (Δ : Scope) (σ : Replacement) → Goes p Γ Δ σ → HasResults Δ σ ts s
    step_spine shaped_none Δ σ goes = (no_args, substituted_none, shaped_none)
    step_spine (shaped_arg b bs) Δ σ goes =
        let r = step b Δ σ goes in
        let rs = step_spine bs Δ σ goes in
        (arg r.0 rs.0, substituted_arg r.1 rs.1, shaped_arg r.2 rs.2)

below_all : (p q : ℕ) → q < p → IsTotal q
below_all zero q small = absurd (omega arith)
below_all (suc p) q small = λ Γ t s. step q (λ m less. below_all p m (omega arith))

pub total : (p : ℕ) {Γ : Scope} {t : LfTerm} {s : SimpleType} → Shaped Γ t s → (Δ : Scope) (σ : Replacement) → Goes p Γ Δ σ → HasResult Δ σ t s
total p = step p (below_all p)

pub total_spine : (p : ℕ) {Γ : Scope} {ts : Spine} {s : SimpleType} → ShapedSpine Γ ts s → (Δ : Scope) (σ : Replacement) → Goes p Γ Δ σ → HasResults Δ σ ts s
total_spine p = step_spine p (below_all p)

-- so each result is shaped
pub Shaped-Substituted : (p : ℕ) (Γ Δ : Scope) (σ : Replacement) {t r : LfTerm} {s : SimpleType} → Goes p Γ Δ σ → Shaped Γ t s → Substituted σ t r → Shaped Δ r s
Shaped-Substituted p Γ Δ σ {s = s} goes shaped result =
    let r = total p shaped Δ σ goes in
    subst (λ x. Shaped Δ x s) (unique r.1 result) r.2

pub ShapedSpine-SubstitutedSpine : (p : ℕ) (Γ Δ : Scope) (σ : Replacement) {ts rs : Spine} {s : SimpleType} → Goes p Γ Δ σ → ShapedSpine Γ ts s → SubstitutedSpine σ ts rs → ShapedSpine Δ rs s
ShapedSpine-SubstitutedSpine p Γ Δ σ {s = s} goes shaped result =
    let r = total_spine p shaped Δ σ goes in
    subst (λ x. ShapedSpine Δ x s) (unique_spine r.1 result) r.2
