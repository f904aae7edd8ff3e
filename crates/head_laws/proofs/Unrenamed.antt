-- Each result of a renamed term is a renamed result.
use Rattle.std.proofs.Common.{◌≡◌, [], ◌∷◌, refl, sym, ap, ap₂, ◌∙◌, subst}
use Rattle.lf_definitions.specs.Syntax.{LfHead, LfTerm, lam, at, Spine, no_args, arg, LfType, pi, family, Context}
use Rattle.lf_definitions.specs.Renaming.{Renaming, lifted, rename, rename_spine, rename_type, rename_context}
use Rattle.lf_definitions.specs.Substitution.{Image, stays, becomes, rename_image, Replacement, up, push, Substituted, substituted_lam, substituted_stays, substituted_becomes, SubstitutedSpine, substituted_none, substituted_arg, Applied, applied_none, applied_arg, SubstitutedType, substituted_pi, substituted_family, SubstitutedContext, substituted_empty, substituted_entry}
use Rattle.lf_definitions.proofs.Uniqueness.{stays-becomes, stays_inj, becomes_inj}
use Rattle.lf_definitions.proofs.Renaming.{Follows, Follows-up, Follows-push, SubstitutedType-rename_type}

image_stays : (ζ : Renaming) (i : Image) (m : LfHead) → rename_image ζ i ≡ stays m → (k : LfHead) × (i ≡ stays k) × (m ≡ ζ k)
image_stays ζ (stays k) m e = (k, refl, stays_inj e refl)
image_stays ζ (becomes u) m e = absurd (stays-becomes e refl)

image_becomes : (ζ : Renaming) (i : Image) (w : LfTerm) → rename_image ζ i ≡ becomes w → (u : LfTerm) × (i ≡ becomes u) × (w ≡ rename ζ u)
image_becomes ζ (stays k) w e = absurd (stays-becomes refl e)
image_becomes ζ (becomes u) w e = (u, refl, becomes_inj e refl)

mutual
  pub unrenamed_term : {τ : Replacement} {y x : LfTerm} → Substituted τ y x → (ξ ζ : Renaming) (σ : Replacement) → Follows ξ ζ σ τ → (t : LfTerm) → y ≡ rename ξ t →
      (r : LfTerm) × (x ≡ rename ζ r) × Substituted σ t r
  unrenamed_term (substituted_lam {σ = τ} p) ξ ζ σ follows (lam b) e =
      let r = unrenamed_term p (lifted ξ) (lifted ζ) (up σ) (Follows-up ξ ζ σ τ follows) b cc in
      (lam r.0, ap lam r.1, substituted_lam r.2)
  unrenamed_term (substituted_lam p) ξ ζ σ follows (at h ts) e = absurd cc
  unrenamed_term (substituted_stays f ps) ξ ζ σ follows (lam b) e = absurd cc
  unrenamed_term (substituted_stays {σ = τ} {h = j} {k = m} f ps) ξ ζ σ follows (at h ts) e =
      let same : j ≡ ξ h = cc in
      let i = image_stays ζ (σ h) m (sym (follows h) ∙ ap τ (sym same) ∙ f) in
      let rs = unrenamed_spine ps ξ ζ σ follows ts cc in
      (at i.0 rs.0, ap₂ at i.2 rs.1, substituted_stays i.1 rs.2)
  unrenamed_term (substituted_becomes u vs f ps p) ξ ζ σ follows (lam b) e = absurd cc
  unrenamed_term (substituted_becomes {σ = τ} {h = j} u vs f ps p) ξ ζ σ follows (at h ts) e =
      let same : j ≡ ξ h = cc in
      let i = image_becomes ζ (σ h) u (sym (follows h) ∙ ap τ (sym same) ∙ f) in
      let rs = unrenamed_spine ps ξ ζ σ follows ts cc in
      let r = unrenamed_applied p ζ ζ stays (λ k. refl) i.0 i.2 rs.0 rs.1 in
      (r.0, r.1, substituted_becomes {r = r.0} i.0 rs.0 i.1 rs.2 r.2)

  pub unrenamed_spine : {τ : Replacement} {ys xs : Spine} → SubstitutedSpine τ ys xs → (ξ ζ : Renaming) (σ : Replacement) → Follows ξ ζ σ τ → (ts : Spine) → ys ≡ rename_spine ξ ts →
      (rs : Spine) × (xs ≡ rename_spine ζ rs) × SubstitutedSpine σ ts rs
  unrenamed_spine substituted_none ξ ζ σ follows no_args e = (no_args, refl, substituted_none)
  unrenamed_spine substituted_none ξ ζ σ follows (arg t ts) e = absurd cc
  unrenamed_spine (substituted_arg p ps) ξ ζ σ follows no_args e = absurd cc
  unrenamed_spine (substituted_arg p ps) ξ ζ σ follows (arg t ts) e =
      let r = unrenamed_term p ξ ζ σ follows t cc in
      let rs = unrenamed_spine ps ξ ζ σ follows ts cc in
      (arg r.0 rs.0, ap₂ arg r.1 rs.1, substituted_arg r.2 rs.2)

  unrenamed_applied : {τ : Replacement} {y x : LfTerm} {ws : Spine} → Applied τ y ws x → (ξ ζ : Renaming) (σ : Replacement) → Follows ξ ζ σ τ → (u : LfTerm) → y ≡ rename ξ u → (vs : Spine) → ws ≡ rename_spine ζ vs →
      (r : LfTerm) × (x ≡ rename ζ r) × Applied σ u vs r
  unrenamed_applied (applied_none p) ξ ζ σ follows u e no_args f = let r = unrenamed_term p ξ ζ σ follows u e in (r.0, r.1, applied_none r.2)
  unrenamed_applied (applied_none p) ξ ζ σ follows u e (arg v vs) f = absurd cc
  unrenamed_applied (applied_arg p) ξ ζ σ follows u e no_args f = absurd cc
  unrenamed_applied (applied_arg p) ξ ζ σ follows (at h ts) e (arg v vs) f = absurd cc
  unrenamed_applied (applied_arg {σ = τ} {v = w} p) ξ ζ σ follows (lam b) e (arg v vs) f =
      let same : w ≡ rename ζ v = cc in
      let r = unrenamed_applied p (lifted ξ) ζ (push v σ) (subst (λ z. Follows (lifted ξ) ζ (push v σ) (push z τ)) (sym same) (Follows-push ξ ζ σ τ v follows)) b (cc) vs (cc) in
      (r.0, r.1, applied_arg r.2)

pub unrenamed_type : (a : LfType) {x : LfType} (ξ ζ : Renaming) (σ τ : Replacement) → Follows ξ ζ σ τ → SubstitutedType τ (rename_type ξ a) x → (r : LfType) × (x ≡ rename_type ζ r) × SubstitutedType σ a r
unrenamed_type (pi a b) ξ ζ σ τ follows (substituted_pi p q) =
    let c = unrenamed_type a ξ ζ σ τ follows p in
    let d = unrenamed_type b (lifted ξ) (lifted ζ) (up σ) (up τ) (Follows-up ξ ζ σ τ follows) q in
    (pi c.0 d.0, ap₂ pi c.1 d.1, substituted_pi c.2 d.2)
unrenamed_type (family f ts) ξ ζ σ τ follows (substituted_family ps) =
    let rs = unrenamed_spine ps ξ ζ σ follows ts refl in
    (family f rs.0, ap (family f) rs.1, substituted_family rs.2)

pub unrenamed_context : (ctx : Context) {xs : Context} (ξ ζ : Renaming) (σ τ : Replacement) → Follows ξ ζ σ τ → SubstitutedContext τ (rename_context ξ ctx) xs →
    (rs : Context) × (xs ≡ rename_context ζ rs) × SubstitutedContext σ ctx rs
unrenamed_context [] ξ ζ σ τ follows substituted_empty = ([], refl, substituted_empty)
unrenamed_context (a ∷ rest) ξ ζ σ τ follows (substituted_entry p q) =
    let c = unrenamed_type a ξ ζ σ τ follows p in
    let d = unrenamed_context rest (lifted ξ) (lifted ζ) (up σ) (up τ) (Follows-up ξ ζ σ τ follows) q in
    (c.0 ∷ d.0, ap₂ (λ b more. b ∷ more) c.1 d.1, substituted_entry c.2 d.2)

pub SubstitutedContext-rename_context : {σ : Replacement} {ctx results : Context} → SubstitutedContext σ ctx results → (ξ ζ : Renaming) (τ : Replacement) → Follows ξ ζ σ τ →
    SubstitutedContext τ (rename_context ξ ctx) (rename_context ζ results)
SubstitutedContext-rename_context substituted_empty ξ ζ τ follows = substituted_empty
SubstitutedContext-rename_context (substituted_entry {σ = σ} p q) ξ ζ τ follows =
    substituted_entry (SubstitutedType-rename_type p ξ ζ τ follows) (SubstitutedContext-rename_context q (lifted ξ) (lifted ζ) (up τ) (Follows-up ξ ζ σ τ follows))
