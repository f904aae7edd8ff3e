-- An assignment that also puts their eta-long forms for some metavariables makes of each term what it made before.
use Rattle.std.proofs.Common.{◌≡◌, ℕ, ◌<◌, ◌↔◌, Bool, true, false, Option, Some, None, refl, sym, ap, subst}
use Rattle.lf_definitions.specs.Syntax.{LfHead, bound, constant, metavariable, LfTerm, Spine, SimpleType, shape_size}
use Rattle.lf_definitions.specs.Shaping.{Scope, Shaped, ShapedSpine, shaped_none, shaped_arg}
use Rattle.lf_definitions.specs.Expansion.{eta}
use Rattle.lf_definitions.specs.Substitution.{Image, stays, becomes, Replacement, Substituted, SubstitutedSpine, substituted_none, substituted_arg}
use Rattle.lf_definitions.specs.Replacements.{Fits, fits_stays, fits_becomes, Goes, Then, then_stays, then_becomes}
use Rattle.lf_definitions.specs.Instantiation.{Assignment, assigned, instantiating, Instantiated, InstantiatedSpine}
use Rattle.lf_definitions.proofs.Options.{Some-Some}
use Rattle.lf_definitions.proofs.Renaming.{same_head, rename-same_head}
use Rattle.lf_definitions.proofs.Expansion.{Alike, alike_stays, alike_eta, IsAlike, unit, Shaped-eta, Substituted-eta}
use Rattle.head_laws.proofs.Known.{IsThenOn, compose_known_term, compose_known_spine}
use Rattle.unification.specs.Solutions.{or_itself}

-- A head that stays, or its eta-long form, fits the shape that the head has.
Fits-Alike : {Γ : Scope} {q : ℕ} {i : Image} {k : LfHead} {s : SimpleType} → Γ k ≡ Some s → Alike q i k s → Fits Γ q i s
Fits-Alike e alike_stays = fits_stays e
Fits-Alike {Γ} e (alike_eta {k = k} {s = s} small) = fits_becomes (Shaped-eta s Γ k e) small

-- for a marked metavariable that is known, what an assignment makes of it
abbrev pub completed_at : Bool → Option SimpleType → ℕ → Option LfTerm → Option LfTerm
completed_at false o g v = v
completed_at true None g v = v
completed_at true (Some s) g v = Some (or_itself v g s)

abbrev pub completed : (ℕ → Bool) → Scope → Assignment → Assignment
completed marked Γ θ g = completed_at (marked g) (Γ (metavariable g)) g (θ g)

abbrev expanded_at : Bool → Option SimpleType → ℕ → Option LfTerm → Image
expanded_at false o g v = stays (metavariable g)
expanded_at true None g v = stays (metavariable g)
expanded_at true (Some s) g None = becomes (eta (metavariable g) s)
expanded_at true (Some s) g (Some u) = stays (metavariable g)

module _ (marked : ℕ → Bool) (Γ : Scope) (q : ℕ) (small : (g : ℕ) (s : SimpleType) → Γ (metavariable g) ≡ Some s → marked g ≡ true → shape_size s < q) (θ : Assignment) where
  -- the eta-long forms of those for which nothing was put
  abbrev expanding : Replacement
  expanding (bound n) = stays (bound n)
  expanding (constant c) = stays (constant c)
  expanding (metavariable g) = expanded_at (marked g) (Γ (metavariable g)) g (θ g)

  alike_at : (g : ℕ) (b : Bool) (o : Option SimpleType) (v : Option LfTerm) (s : SimpleType) → o ≡ Some s → (b ≡ true → shape_size s < q) → Alike q (expanded_at b o g v) (metavariable g) s
  alike_at g false o v s e less = alike_stays
  alike_at g true None v s e less = absurd cc
  alike_at g true (Some c) None s e less = subst (λ d. Alike q (becomes (eta (metavariable g) d)) (metavariable g) s) (sym (Some-Some e)) (alike_eta (less refl))
  alike_at g true (Some c) (Some u) s e less = alike_stays

  is_alike : IsAlike q same_head Γ expanding
  is_alike (bound n) s e = alike_stays
  is_alike (constant c) s e = alike_stays
  is_alike (metavariable g) s e = alike_at g (marked g) (Γ (metavariable g)) (θ g) s e (small g s e)

  goes_expanding : Goes q Γ Γ expanding
  goes_expanding h s e = Fits-Alike e (is_alike h s e)

  then_at : (g : ℕ) (b : Bool) (o : Option SimpleType) (v : Option LfTerm) → θ g ≡ v → Then (instantiating θ) (expanded_at b o g v) (assigned g (completed_at b o g v))
  then_at g false o v e = then_stays (ap (assigned g) e)
  then_at g true None v e = then_stays (ap (assigned g) e)
  then_at g true (Some s) None e = then_becomes (Substituted-eta s (instantiating θ) (metavariable g) (metavariable g) (ap (assigned g) e))
  then_at g true (Some s) (Some u) e = then_stays (ap (assigned g) e)

  then_on : IsThenOn Γ expanding (instantiating θ) (instantiating (completed marked Γ θ))
  then_on (bound n) s e = then_stays refl
  then_on (constant c) s e = then_stays refl
  then_on (metavariable g) s e = then_at g (marked g) (Γ (metavariable g)) (θ g) refl

  expanding_term : (t : LfTerm) (s : SimpleType) → Shaped Γ t s → Substituted expanding t t
  expanding_term t s shaped = subst (Substituted expanding t) (rename-same_head t) (unit q Γ Γ same_head expanding (λ h c e. e) is_alike t s shaped)

  expanding_spine : {ts : Spine} {s : SimpleType} → ShapedSpine Γ ts s → SubstitutedSpine expanding ts ts
  expanding_spine shaped_none = substituted_none
  expanding_spine (shaped_arg p ps) = substituted_arg (expanding_term _ _ p) (expanding_spine ps)

  pub completed_term : (p : ℕ) (Δ : Scope) → Goes p Γ Δ (instantiating θ) → (t x : LfTerm) (s : SimpleType) → Shaped Γ t s → Instantiated θ t x ↔ Instantiated (completed marked Γ θ) t x
  completed_term p Δ goes t x s shaped =
      compose_known_term q p Γ Γ Δ expanding (instantiating θ) (instantiating (completed marked Γ θ)) goes_expanding goes then_on t t x s shaped (expanding_term t s shaped)

  pub completed_spine : (p : ℕ) (Δ : Scope) → Goes p Γ Δ (instantiating θ) → (ts xs : Spine) (s : SimpleType) → ShapedSpine Γ ts s → InstantiatedSpine θ ts xs ↔ InstantiatedSpine (completed marked Γ θ) ts xs
  completed_spine p Δ goes ts xs s shaped =
      compose_known_spine q p Γ Γ Δ expanding (instantiating θ) (instantiating (completed marked Γ θ)) goes_expanding goes then_on ts ts xs s shaped (expanding_spine shaped)
