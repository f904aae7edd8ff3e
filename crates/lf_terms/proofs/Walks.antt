-- How far a substitution goes: what it costs and what it gives, by a recursion that counts nested substitutions.
use Rattle.std.proofs.Common.{◌≡◌, ℕ, zero, suc, ◌+◌, ◌<◌, ◌≤◌, Some, refl, sym, ap, ap₂, ◌∙◌, arith}
use mathlib.Core.Path.{fun_ext}
use Rattle.lf_definitions.specs.Syntax.{LfHead, bound, LfTerm, lam, at, Spine, no_args, arg, SimpleType, base, shape_size, args_count, arg_at, lams}
use Rattle.lf_definitions.specs.Renaming.{next, Renaming, lifted, rename, rename_spine}
use Rattle.lf_definitions.specs.Shaping.{Scope, under, Shaped, shaped_lam, shaped_at, ShapedSpine, shaped_none, shaped_arg}
use Rattle.lf_definitions.specs.Substitution.{Image, stays, becomes, rename_image, Replacement, up, push, push_all, Substituted, substituted_lam, substituted_stays, substituted_becomes, SubstitutedSpine, substituted_none, substituted_arg, Applied, applied_none, applied_arg}
use Rattle.lf_definitions.proofs.Renaming.{extended-next, each_head}
use Rattle.lf_definitions.specs.Replacements.{Fits, fits_stays, fits_becomes, Goes}
use Rattle.lf_definitions.proofs.Totality.{Goes-more, Goes-stays, Goes-up, Goes-push, ShapedSpine-SubstitutedSpine}

-- the cost and the result
abbrev pub Outcome : Type 0
Outcome = ℕ × LfTerm

abbrev pub Walk : Type 0
Walk = Replacement → LfTerm → Outcome

-- `rec` is the walk of a body into which arguments are put.
abbrev pub apply_walk : Walk → Replacement → LfTerm → Spine → Outcome
apply_walk rec σ u no_args = rec σ u
apply_walk rec σ (lam b) (arg v vs) = apply_walk rec (push v σ) b vs
apply_walk rec σ (at h ts) (arg v vs) = (0, at h ts)

abbrev pub head_walk : Walk → Image → Spine → Outcome
head_walk rec (stays k) vs = (0, at k vs)
head_walk rec (becomes u) vs = (suc (apply_walk rec stays u vs).0, (apply_walk rec stays u vs).1)

abbrev at_walk : Walk → Image → ℕ × Spine → Outcome
at_walk rec i p = (suc (suc (p.0 + (head_walk rec i p.1).0)), (head_walk rec i p.1).1)

abbrev mutual
  pub walk : Walk → Walk
  walk rec σ (lam b) = (suc (walk rec (up σ) b).0, lam (walk rec (up σ) b).1)
  walk rec σ (at h ts) = at_walk rec (σ h) (walks rec σ ts)

  pub walks : Walk → Replacement → Spine → ℕ × Spine
  walks rec σ no_args = (0, no_args)
  walks rec σ (arg t ts) = (suc ((walk rec σ t).0 + (walks rec σ ts).0), arg (walk rec σ t).1 (walks rec σ ts).1)

-- at most so many substitutions inside one another
abbrev pub deeper : ℕ → Walk
deeper zero σ t = (0, t)
deeper (suc p) σ t = walk (deeper p) σ t

-- The walk gives the result, where nothing of a greater shape than the bound is put.
module _ (p : ℕ) (nested : (m : ℕ) → m < p → (Γ Δ : Scope) (σ : Replacement) (u : LfTerm) (s : SimpleType) → Shaped Γ u s → Goes m Γ Δ σ → Substituted σ u (deeper p σ u).1) where
  applied_sound : (m : ℕ) → m < p → (Δ : Scope) {vs : Spine} {s : SimpleType} → ShapedSpine Δ vs s → shape_size s ≤ m →
      (Γ : Scope) {u : LfTerm} → Shaped Γ u s → (σ : Replacement) → Goes m Γ Δ σ → Applied σ u vs (apply_walk (deeper p) σ u vs).1
  applied_sound m less Δ shaped_none small Γ {u} shaped σ goes = applied_none (nested m less Γ Δ σ u base shaped goes)
  applied_sound m less Δ (shaped_arg {t = v} {a = a} w ws) small Γ (shaped_lam shaped) σ goes =
      applied_arg (applied_sound m less Δ ws (omega arith) (under a Γ) shaped (push v σ) (Goes-push m Γ Δ σ a v goes w (omega arith)))

  head_sound : (Δ : Scope) (σ : Replacement) (h : LfHead) (ts vs : Spine) (s : SimpleType) (i : Image) → σ h ≡ i → Fits Δ p i s → SubstitutedSpine σ ts vs → ShapedSpine Δ vs s →
      Substituted σ (at h ts) (head_walk (deeper p) i vs).1
  head_sound Δ σ h ts vs s (stays k) e fits results shaped = substituted_stays e results
  head_sound Δ σ h ts vs s (becomes u) e (fits_becomes shaped_u small) results shaped =
      substituted_becomes u vs e results (applied_sound (shape_size s) small Δ shaped (omega arith) Δ shaped_u stays (Goes-stays (shape_size s) Δ))

  mutual
    sound_step : {Γ : Scope} {t : LfTerm} {s : SimpleType} → Shaped Γ t s → (Δ : Scope) (σ : Replacement) → Goes p Γ Δ σ → Substituted σ t (walk (deeper p) σ t).1
    sound_step (shaped_lam {Γ = Γ} {a = a} b) Δ σ goes = substituted_lam (sound_step b (under a Δ) (up σ) (Goes-up p Γ Δ σ a goes))
    sound_step (shaped_at {Γ = Γ} {h = h} {ts = ts} s e ps) Δ σ goes =
        let results = sound_steps ps Δ σ goes in
        head_sound Δ σ h ts (walks (deeper p) σ ts).1 s (σ h) refl (goes h s e) results (ShapedSpine-SubstitutedSpine p Γ Δ σ goes ps results)

    sound_steps : {Γ : Scope} {ts : Spine} {s : SimpleType} → ShapedSpine Γ ts s → (Δ : Scope) (σ : Replacement) → Goes p Γ Δ σ → SubstitutedSpine σ ts (walks (deeper p) σ ts).1
    sound_steps shaped_none Δ σ goes = substituted_none
    sound_steps (shaped_arg b bs) Δ σ goes = substituted_arg (sound_step b Δ σ goes) (sound_steps bs Δ σ goes)

nested_sound : (p m : ℕ) → m < p → (Γ Δ : Scope) (σ : Replacement) (u : LfTerm) (s : SimpleType) → Shaped Γ u s → Goes m Γ Δ σ → Substituted σ u (deeper p σ u).1
nested_sound zero m less Γ Δ σ u s shaped goes = absurd (omega arith)
nested_sound (suc p) m less Γ Δ σ u s shaped goes = sound_step p (nested_sound p) shaped Δ σ (Goes-more m p Γ Δ σ (omega arith) goes)

pub walks_sound : (p : ℕ) (Γ Δ : Scope) (σ : Replacement) (ts : Spine) (s : SimpleType) → ShapedSpine Γ ts s → Goes p Γ Δ σ → SubstitutedSpine σ ts (walks (deeper p) σ ts).1
walks_sound p Γ Δ σ ts s shaped goes = sound_steps p (nested_sound p) shaped Δ σ goes

-- A greater bound changes nothing.
module _ (p q : ℕ) (nested : (m : ℕ) → m < p → (Γ Δ : Scope) (σ : Replacement) (u : LfTerm) (s : SimpleType) → Shaped Γ u s → Goes m Γ Δ σ → deeper q σ u ≡ deeper p σ u) where
  applied_same : (m : ℕ) → m < p → (Δ : Scope) {vs : Spine} {s : SimpleType} → ShapedSpine Δ vs s → shape_size s ≤ m →
      (Γ : Scope) {u : LfTerm} → Shaped Γ u s → (σ : Replacement) → Goes m Γ Δ σ → apply_walk (deeper q) σ u vs ≡ apply_walk (deeper p) σ u vs
  applied_same m less Δ shaped_none small Γ {u} shaped σ goes = nested m less Γ Δ σ u base shaped goes
  applied_same m less Δ (shaped_arg {t = v} {a = a} w ws) small Γ (shaped_lam shaped) σ goes =
      applied_same m less Δ ws (omega arith) (under a Γ) shaped (push v σ) (Goes-push m Γ Δ σ a v goes w (omega arith))

  head_same : (Δ : Scope) (vs : Spine) (s : SimpleType) {i : Image} → Fits Δ p i s → ShapedSpine Δ vs s → head_walk (deeper q) i vs ≡ head_walk (deeper p) i vs
  head_same Δ vs s (fits_stays e) shaped = refl
  head_same Δ vs s (fits_becomes shaped_u small) shaped =
      ap (λ o. (suc o.0, o.1)) (applied_same (shape_size s) small Δ shaped (omega arith) Δ shaped_u stays (Goes-stays (shape_size s) Δ))

  mutual
    same_step : {Γ : Scope} {t : LfTerm} {s : SimpleType} → Shaped Γ t s → (Δ : Scope) (σ : Replacement) → Goes p Γ Δ σ → walk (deeper q) σ t ≡ walk (deeper p) σ t
    same_step (shaped_lam {Γ = Γ} {a = a} b) Δ σ goes = ap (λ o. (suc o.0, lam o.1)) (same_step b (under a Δ) (up σ) (Goes-up p Γ Δ σ a goes))
    same_step (shaped_at {Γ = Γ} {h = h} {ts = ts} s e ps) Δ σ goes =
        let results = walks_sound p Γ Δ σ ts s ps goes in
        let vs = (walks (deeper p) σ ts).1 in
        ap (at_walk (deeper q) (σ h)) (same_steps ps Δ σ goes)
        ∙ ap (λ o. (suc (suc ((walks (deeper p) σ ts).0 + o.0)), o.1)) (head_same Δ vs s (goes h s e) (ShapedSpine-SubstitutedSpine p Γ Δ σ goes ps results))

    same_steps : {Γ : Scope} {ts : Spine} {s : SimpleType} → ShapedSpine Γ ts s → (Δ : Scope) (σ : Replacement) → Goes p Γ Δ σ → walks (deeper q) σ ts ≡ walks (deeper p) σ ts
    same_steps shaped_none Δ σ goes = refl
    same_steps (shaped_arg b bs) Δ σ goes = ap₂ (λ o r. (suc (o.0 + r.0), arg o.1 r.1)) (same_step b Δ σ goes) (same_steps bs Δ σ goes)

nested_same : (p q : ℕ) → p ≤ q → (m : ℕ) → m < p → (Γ Δ : Scope) (σ : Replacement) (u : LfTerm) (s : SimpleType) → Shaped Γ u s → Goes m Γ Δ σ → deeper q σ u ≡ deeper p σ u
nested_same zero q le m less Γ Δ σ u s shaped goes = absurd (omega arith)
nested_same (suc p) zero le m less Γ Δ σ u s shaped goes = absurd (omega arith)
nested_same (suc p) (suc q) le m less Γ Δ σ u s shaped goes = same_step p q (nested_same p q (omega arith)) shaped Δ σ (Goes-more m p Γ Δ σ (omega arith) goes)

pub walk_same : (p q : ℕ) → p ≤ q → (Γ Δ : Scope) (σ : Replacement) (t : LfTerm) (s : SimpleType) → Shaped Γ t s → Goes p Γ Δ σ → walk (deeper q) σ t ≡ walk (deeper p) σ t
walk_same p q le Γ Δ σ t s shaped goes = same_step p q (nested_same p q le) shaped Δ σ goes

-- Walking a renamed term is walking the term.
up-lifted : (τ : Replacement) (ξ : Renaming) (h : LfHead) → up τ (lifted ξ h) ≡ up (λ k. τ (ξ k)) h
up-lifted τ ξ =
    each_head (λ h. up τ (lifted ξ h) ≡ up (λ k. τ (ξ k)) h) refl
    (λ h. ap (up τ) (extended-next (bound zero) (λ k. next (ξ k)) h) ∙ extended-next (stays (bound zero)) (λ k. rename_image next (τ k)) (ξ h)
    ∙ sym (extended-next (stays (bound zero)) (λ k. rename_image next (τ (ξ k))) h))

mutual
  pub walk-rename : (t : LfTerm) (rec : Walk) (τ : Replacement) (ξ : Renaming) → walk rec τ (rename ξ t) ≡ walk rec (λ h. τ (ξ h)) t
  walk-rename (lam b) rec τ ξ = ap (λ o. (suc o.0, lam o.1)) (walk-rename b rec (up τ) (lifted ξ) ∙ ap (λ σ. walk rec σ b) (fun_ext (up-lifted τ ξ)))
  walk-rename (at h ts) rec τ ξ = ap (at_walk rec (τ (ξ h))) (walks-rename_spine ts rec τ ξ)

  pub walks-rename_spine : (ts : Spine) (rec : Walk) (τ : Replacement) (ξ : Renaming) → walks rec τ (rename_spine ξ ts) ≡ walks rec (λ h. τ (ξ h)) ts
  walks-rename_spine no_args rec τ ξ = refl
  walks-rename_spine (arg t ts) rec τ ξ = ap₂ (λ o r. (suc (o.0 + r.0), arg o.1 r.1)) (walk-rename t rec τ ξ) (walks-rename_spine ts rec τ ξ)

pub apply_walk-lams : (vs : Spine) (rec : Walk) (σ : Replacement) (b : LfTerm) → apply_walk rec σ (lams (args_count vs) b) vs ≡ rec (push_all vs σ) b
apply_walk-lams no_args rec σ b = refl
apply_walk-lams (arg v vs) rec σ b = apply_walk-lams vs rec (push v σ) b

-- an argument costs less than the spine
pub arg_cost : (ts : Spine) (i : ℕ) (t : LfTerm) (rec : Walk) (σ : Replacement) → arg_at ts i ≡ Some t → (walk rec σ t).0 < (walks rec σ ts).0
arg_cost no_args i t rec σ e = absurd cc
arg_cost (arg u ts) zero t rec σ e = let same : u ≡ t = cc in rw (← same) (omega arith)
arg_cost (arg u ts) (suc i) t rec σ e = omega (arith, arg_cost ts i t rec σ e)
