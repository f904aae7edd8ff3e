-- Each head that occurs in what is shaped is known in its scope. So replacements compose where they do on the heads that are known.
use Rattle.std.proofs.Common.{◌≡◌, ℕ, ◌+◌, ◌↔◌, Option, Some, None, refl, sym, ap, ◌∙◌, subst, arith}
use Rattle.lf_definitions.specs.Syntax.{LfHead, LfTerm, Spine, LfType, Context, SimpleType, shape_of}
use Rattle.lf_definitions.specs.Renaming.{next}
use Rattle.lf_definitions.specs.Shaping.{Scope, under, Shaped, shaped_lam, shaped_at, ShapedSpine, shaped_none, shaped_arg, ShapedType, shaped_pi, shaped_family}
use Rattle.lf_definitions.specs.ShapedGoals.{ShapedContext, shaped_empty, shaped_entry}
use Rattle.lf_definitions.specs.Occurrence.{OccursIn, occurs_head, occurs_args, occurs_lam, OccursInSpine, occurs_first, occurs_later, OccursInType, occurs_binder, occurs_rest, occurs_family, OccursInContext, occurs_entry, occurs_after}
use Rattle.lf_definitions.specs.Substitution.{Image, stays, becomes, Replacement, Substituted, SubstitutedSpine, SubstitutedType, SubstitutedContext}
use Rattle.lf_definitions.specs.Replacements.{Fits, fits_stays, fits_becomes, Goes, Then, then_stays, then_becomes, IsThen}
use Rattle.lf_definitions.proofs.Renaming.{extended-next}
use Rattle.lf_definitions.proofs.Totality.{Fits-more, Shaped-Substituted}
use Rattle.head_laws.proofs.Replacing.{Substituted-agree, SubstitutedSpine-agree, SubstitutedType-agree, SubstitutedContext-agree}
use Rattle.head_laws.proofs.Results.{compose_term, compose_spine, compose_type, compose_context}

abbrev pub IsKnown : Scope → LfHead → Type 0
IsKnown Γ h = (s : SimpleType) × (Γ h ≡ Some s)

known_under : (Γ : Scope) (a : SimpleType) (h : LfHead) → IsKnown (under a Γ) (next h) → IsKnown Γ h
known_under Γ a h known = (known.0, sym (extended-next (Some a) Γ h) ∙ known.1)

mutual
  pub known_term : {Γ : Scope} {t : LfTerm} {s : SimpleType} → Shaped Γ t s → (h : LfHead) → OccursIn h t → IsKnown Γ h
  known_term (shaped_lam {Γ = Γ} {a = a} p) h (occurs_lam _ _ o) = known_under Γ a h (known_term p (next h) o)
  known_term (shaped_at s e ps) h (occurs_head _ _) = (s, e)
  known_term (shaped_at s e ps) h (occurs_args _ _ _ o) = known_spine ps h o

  pub known_spine : {Γ : Scope} {ts : Spine} {s : SimpleType} → ShapedSpine Γ ts s → (h : LfHead) → OccursInSpine h ts → IsKnown Γ h
  known_spine shaped_none h o = elim o [ ]
  known_spine (shaped_arg p ps) h (occurs_first _ _ _ o) = known_term p h o
  known_spine (shaped_arg p ps) h (occurs_later _ _ _ o) = known_spine ps h o

pub known_type : {kinds : ℕ → Option SimpleType} {Γ : Scope} {a : LfType} → ShapedType kinds Γ a → (h : LfHead) → OccursInType h a → IsKnown Γ h
known_type (shaped_pi p q) h (occurs_binder _ _ _ o) = known_type p h o
known_type (shaped_pi {Γ = Γ} {a = a} p q) h (occurs_rest _ _ _ o) = known_under Γ (shape_of a) h (known_type q (next h) o)
known_type (shaped_family s e ps) h (occurs_family _ _ _ o) = known_spine ps h o

pub known_context : {kinds : ℕ → Option SimpleType} {Γ : Scope} {ctx : Context} → ShapedContext kinds Γ ctx → (h : LfHead) → OccursInContext h ctx → IsKnown Γ h
known_context shaped_empty h o = elim o [ ]
known_context (shaped_entry p q) h (occurs_entry _ _ _ o) = known_type p h o
known_context (shaped_entry {Γ = Γ} {a = a} p q) h (occurs_after _ _ _ o) = known_under Γ (shape_of a) h (known_context q (next h) o)

-- an image for a head that is known, and another for one that isn't
abbrev if_known : Option SimpleType → Image → Image → Image
if_known None known unknown = unknown
if_known (Some s) known unknown = known

-- `ρ` does to each head that is known what `σ` and then `τ` do.
abbrev pub IsThenOn : Scope → Replacement → Replacement → Replacement → Type 0
IsThenOn Γ σ τ ρ = (h : LfHead) (s : SimpleType) → Γ h ≡ Some s → Then τ (σ h) (ρ h)

fits_then : (p q : ℕ) (Δ Θ : Scope) (τ : Replacement) → Goes q Δ Θ τ → {i j : Image} {s : SimpleType} → Fits Δ p i s → Then τ i j → Fits Θ (p + q) j s
fits_then p q Δ Θ τ goes {s = s} fits (then_stays {k = k} {i = i} e) = at_head fits
  where
    at_head : Fits Δ p (stays k) s → Fits Θ (p + q) i s
    at_head (fits_stays f) = subst (λ x. Fits Θ (p + q) x s) e (Fits-more (p + q) (omega arith) (goes k s f))
fits_then p q Δ Θ τ goes {s = s} fits (then_becomes {u = u} {r = r} result) = at_term fits
  where
    at_term : Fits Δ p (becomes u) s → Fits Θ (p + q) (becomes r) s
    at_term (fits_becomes shaped small) = fits_becomes (Shaped-Substituted q Δ Θ τ goes shaped result) (omega arith)

pub Goes-then : (p q : ℕ) (Γ Δ Θ : Scope) (σ τ ρ : Replacement) → Goes p Γ Δ σ → Goes q Δ Θ τ → IsThenOn Γ σ τ ρ → Goes (p + q) Γ Θ ρ
Goes-then p q Γ Δ Θ σ τ ρ goes goes_τ then h s e = fits_then p q Δ Θ τ goes_τ (goes h s e) (then h s e)

module _ (p q : ℕ) (Γ Δ Θ : Scope) (σ τ ρ : Replacement) (goes : Goes p Γ Δ σ) (goes_τ : Goes q Δ Θ τ) (then : IsThenOn Γ σ τ ρ) where
  -- the same on all heads that are known, and composed on all others too
  abbrev first : Replacement
  first h = if_known (Γ h) (σ h) (stays h)

  abbrev both : Replacement
  both h = if_known (Γ h) (ρ h) (τ h)

  at_first : (h : LfHead) → IsKnown Γ h → σ h ≡ first h
  at_first h known = sym (ap (λ o. if_known o (σ h) (stays h)) known.1)

  at_both : (h : LfHead) → IsKnown Γ h → ρ h ≡ both h
  at_both h known = sym (ap (λ o. if_known o (ρ h) (τ h)) known.1)

  goes_first : Goes p Γ Δ first
  goes_first h s e = subst (λ i. Fits Δ p i s) (at_first h (s, e)) (goes h s e)

  goes_both : Goes (p + q) Γ Θ both
  goes_both h s e = subst (λ i. Fits Θ (p + q) i s) (at_both h (s, e)) (Goes-then p q Γ Δ Θ σ τ ρ goes goes_τ then h s e)

  is_then : IsThen first τ both
  is_then h = each (Γ h) refl
    where
      each : (o : Option SimpleType) → Γ h ≡ o → Then τ (if_known o (σ h) (stays h)) (if_known o (ρ h) (τ h))
      each None e = then_stays refl
      each (Some s) e = then h s e

  pub compose_known_term : (t r x : LfTerm) (s : SimpleType) → Shaped Γ t s → Substituted σ t r → Substituted τ r x ↔ Substituted ρ t x
  compose_known_term t r x s shaped result =
      let c = compose_term p q (p + q) Γ Δ Θ first τ both goes_first goes_τ is_then goes_both t r x s shaped
      (Substituted-agree result first (λ h o. at_first h (known_term shaped h o))) in
      (λ y. Substituted-agree (c.0 y) ρ (λ h o. sym (at_both h (known_term shaped h o))), λ y. c.1 (Substituted-agree y both (λ h o. at_both h (known_term shaped h o))))

  pub compose_known_spine : (ts rs xs : Spine) (s : SimpleType) → ShapedSpine Γ ts s → SubstitutedSpine σ ts rs → SubstitutedSpine τ rs xs ↔ SubstitutedSpine ρ ts xs
  compose_known_spine ts rs xs s shaped result =
      let c = compose_spine p q (p + q) Γ Δ Θ first τ both goes_first goes_τ is_then goes_both ts rs xs s shaped
      (SubstitutedSpine-agree result first (λ h o. at_first h (known_spine shaped h o))) in
      (λ y. SubstitutedSpine-agree (c.0 y) ρ (λ h o. sym (at_both h (known_spine shaped h o))), λ y. c.1 (SubstitutedSpine-agree y both (λ h o. at_both h (known_spine shaped h o))))

  pub compose_known_type : (kinds : ℕ → Option SimpleType) (a b c : LfType) → ShapedType kinds Γ a → SubstitutedType σ a b → SubstitutedType τ b c ↔ SubstitutedType ρ a c
  compose_known_type kinds a b d shaped result =
      let c = compose_type p q (p + q) Γ Δ Θ first τ both goes_first goes_τ is_then goes_both kinds a b d shaped
      (SubstitutedType-agree result first (λ h o. at_first h (known_type shaped h o))) in
      (λ y. SubstitutedType-agree (c.0 y) ρ (λ h o. sym (at_both h (known_type shaped h o))), λ y. c.1 (SubstitutedType-agree y both (λ h o. at_both h (known_type shaped h o))))

  pub compose_known_context : (kinds : ℕ → Option SimpleType) (ctx before after : Context) → ShapedContext kinds Γ ctx → SubstitutedContext σ ctx before → SubstitutedContext τ before after ↔ SubstitutedContext ρ ctx after
  compose_known_context kinds ctx before after shaped result =
      let c = compose_context p q (p + q) Γ Δ Θ first τ both goes_first goes_τ is_then goes_both kinds ctx before after shaped
      (SubstitutedContext-agree result first (λ h o. at_first h (known_context shaped h o))) in
      (λ y. SubstitutedContext-agree (c.0 y) ρ (λ h o. sym (at_both h (known_context shaped h o))), λ y. c.1 (SubstitutedContext-agree y both (λ h o. at_both h (known_context shaped h o))))
