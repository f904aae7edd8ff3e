-- What is an instance of an assignment makes of a term what it makes of what that assignment makes of it.
use Rattle.std.proofs.Common.{◌≡◌, ℕ, ◌<◌, ◌↔◌, Bool, true, Option, Some, None, refl}
use Rattle.std.specs.Prelude.{is_some}
use Rattle.lf_definitions.specs.Syntax.{metavariable, LfTerm, Spine, SimpleType, shape_size}
use Rattle.lf_definitions.specs.Shaping.{Scope, Shaped, ShapedSpine}
use Rattle.lf_definitions.specs.Substitution.{becomes}
use Rattle.lf_definitions.specs.Replacements.{Fits, fits_becomes, Goes, Then, then_stays, then_becomes}
use Rattle.lf_definitions.specs.Instantiation.{Assignment, assigned, instantiating, Instantiated, InstantiatedSpine}
use Rattle.head_laws.specs.AssignmentLaws.{IsAfter}
use Rattle.head_laws.proofs.Known.{compose_known_term, compose_known_spine}
use Rattle.head_laws.proofs.Assignments.{IsThenOn-after}
use Rattle.unification.specs.Solutions.{IsInstanceOf}
use Rattle.unifiers.proofs.Completion.{completed_at, completed, completed_term, completed_spine}

Fits-small : {Γ : Scope} {q : ℕ} {u : LfTerm} {s : SimpleType} → Fits Γ q (becomes u) s → shape_size s < q
Fits-small (fits_becomes shaped small) = small

module _ (q p : ℕ) (Γ Δ : Scope) (σ θ : Assignment) (goes_σ : Goes q Γ Γ (instantiating σ)) (goes_θ : Goes p Γ Δ (instantiating θ)) (instance : IsInstanceOf Γ σ θ) where
  -- what has a term
  abbrev has_term : ℕ → Bool
  has_term g = is_some (σ g)

  abbrev both : Assignment
  both = completed has_term Γ θ

  small_at : (g : ℕ) (v : Option LfTerm) (s : SimpleType) → Fits Γ q (assigned g v) s → is_some v ≡ true → shape_size s < q
  small_at g None s fits e = absurd cc
  small_at g (Some u) s fits e = Fits-small fits

  small : (g : ℕ) (s : SimpleType) → Γ (metavariable g) ≡ Some s → has_term g ≡ true → shape_size s < q
  small g s e = small_at g (σ g) s (goes_σ (metavariable g) s e)

  after_at : (g : ℕ) (v : Option LfTerm) → σ g ≡ v → (o : Option SimpleType) → Γ (metavariable g) ≡ o → (s : SimpleType) → o ≡ Some s →
      Then (instantiating θ) (assigned g v) (assigned g (completed_at (is_some v) o g (θ g)))
  after_at g None e o f s k = then_stays refl
  after_at g (Some u) e None f s k = absurd cc
  after_at g (Some u) e (Some c) f s k = then_becomes (instance g c u f e)

  is_after : IsAfter Γ σ θ both
  is_after g s e = after_at g (σ g) refl (Γ (metavariable g)) refl s e

  pub follow_term : (t r x : LfTerm) (s : SimpleType) → Shaped Γ t s → Instantiated σ t r → Instantiated θ r x ↔ Instantiated θ t x
  follow_term t r x s shaped result =
      let there = compose_known_term q p Γ Γ Δ (instantiating σ) (instantiating θ) (instantiating both) goes_σ goes_θ (IsThenOn-after q Γ Γ σ θ both goes_σ is_after) t r x s shaped result in
      let back = completed_term has_term Γ q small θ p Δ goes_θ t x s shaped in
      (λ y. back.1 (there.0 y), λ y. there.1 (back.0 y))

  pub follow_spine : (ts rs xs : Spine) (s : SimpleType) → ShapedSpine Γ ts s → InstantiatedSpine σ ts rs → InstantiatedSpine θ rs xs ↔ InstantiatedSpine θ ts xs
  follow_spine ts rs xs s shaped result =
      let there = compose_known_spine q p Γ Γ Δ (instantiating σ) (instantiating θ) (instantiating both) goes_σ goes_θ (IsThenOn-after q Γ Γ σ θ both goes_σ is_after) ts rs xs s shaped result in
      let back = completed_spine has_term Γ q small θ p Δ goes_θ ts xs s shaped in
      (λ y. back.1 (there.0 y), λ y. there.1 (back.0 y))
