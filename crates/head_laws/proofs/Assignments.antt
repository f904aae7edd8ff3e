-- One assignment after another, and closed terms that are assigned before or after a substitution.
use Rattle.std.proofs.Common.{◌≡◌, ℕ, zero, suc, ◌+◌, Option, Some, None, List, length, refl, ap, ◌∙◌, subst, arith}
use mathlib.Core.Path.{fun_ext}
use Rattle.lf_definitions.specs.Syntax.{LfHead, bound, constant, metavariable, LfTerm, Spine, SimpleType, base, arrows, args_count, shape_size}
use Rattle.lf_definitions.specs.Renaming.{next, raise}
use Rattle.lf_definitions.specs.Shaping.{Scope, under_all, ShapedList}
use Rattle.lf_definitions.specs.Occurrence.{OccursIn}
use Rattle.lf_definitions.specs.Substitution.{stays, becomes, rename_image, Replacement, up, up_by, push_all}
use Rattle.lf_definitions.specs.Replacements.{Fits, fits_becomes, Goes, Then, then_stays, then_becomes, IsThen}
use Rattle.lf_definitions.specs.Instantiation.{Assignment, assigned, instantiating, InstantiatedSpine}
use Rattle.lf_definitions.specs.Laws.{image}
use Rattle.lf_definitions.proofs.Renaming.{same_head, rename-same_head}
use Rattle.lf_definitions.proofs.Totality.{total, Goes-more, ShapedSpine-SubstitutedSpine}
use Rattle.lf_definitions.proofs.Composition.{IsThen-before, IsThen-after}
use Rattle.lf_definitions.proofs.Telescopes.{Goes-push_all, Goes-up_by, IsThen-up_by, IsThen-push_all_before, IsThen-push_all_after}
use Rattle.lf_definitions.proofs.Laws.{Goes-image}
use Rattle.head_laws.specs.AssignmentLaws.{IsAfter, AssignsClosedTerms}
use Rattle.head_laws.proofs.Occurrence.{rename-agree}
use Rattle.head_laws.proofs.Known.{IsThenOn}

pub IsThenOn-after : (p : ℕ) (Γ Δ : Scope) (σ τ ρ : Assignment) → Goes p Γ Δ (instantiating σ) → IsAfter Γ σ τ ρ → IsThenOn Γ (instantiating σ) (instantiating τ) (instantiating ρ)
IsThenOn-after p Γ Δ σ τ ρ goes after (bound n) s e = then_stays refl
IsThenOn-after p Γ Δ σ τ ρ goes after (constant c) s e = then_stays refl
IsThenOn-after p Γ Δ σ τ ρ goes after (metavariable g) s e = after g s e

-- what is put for one metavariable
module _ (p q : ℕ) (Γ Δ Θ : Scope) (σ τ : Assignment) (goes : Goes p Γ Δ (instantiating σ)) (goes_τ : Goes q Δ Θ (instantiating τ)) (g : ℕ) where
  abbrev IsAfterAt : Option LfTerm → Option LfTerm → Type 0
  IsAfterAt first both = (s : SimpleType) → Γ (metavariable g) ≡ Some s → Then (instantiating τ) (assigned g first) (assigned g both)

  applied_after : (u : LfTerm) (s : SimpleType) → Fits Δ p (becomes u) s → (o : Option LfTerm) × Then (instantiating τ) (becomes u) (assigned g o)
  applied_after u s (fits_becomes shaped small) = let r = total q shaped Θ (instantiating τ) goes_τ in (Some r.0, then_becomes r.1)

  after_at : (o : Option SimpleType) → Γ (metavariable g) ≡ o → (first : Option LfTerm) → σ g ≡ first → (both : Option LfTerm) × IsAfterAt first both
  after_at None e first f = (None, λ s e'. absurd cc)
  after_at (Some c) e None f = (τ g, λ s e'. then_stays refl)
  after_at (Some c) e (Some u) f =
      let r = applied_after u c (subst (λ x. Fits Δ p (assigned g x) c) f (goes (metavariable g) c e)) in
      (r.0, λ s e'. r.1)

  pub after_exists : (both : Option LfTerm) × IsAfterAt (σ g) both
  after_exists = after_at (Γ (metavariable g)) refl (σ g) refl

-- Closed terms stay under a binder.
raise-closed : (u : LfTerm) → ((n : ℕ) → OccursIn (bound n) u → ⊥) → raise u ≡ u
raise-closed u closed = rename-agree u next same_head each ∙ rename-same_head u
  where
    each : (h : LfHead) → OccursIn h u → next h ≡ same_head h
    each (bound n) o = absurd (closed n o)
    each (constant c) o = refl
    each (metavariable g) o = refl

up-closed : (σ : Assignment) → AssignsClosedTerms σ → (h : LfHead) → up (instantiating σ) h ≡ instantiating σ h
up-closed σ closed (bound zero) = refl
up-closed σ closed (bound (suc n)) = refl
up-closed σ closed (constant c) = refl
up-closed σ closed (metavariable g) = each (σ g) refl
  where
    each : (o : Option LfTerm) → σ g ≡ o → rename_image next (assigned g o) ≡ assigned g o
    each None e = refl
    each (Some u) e = ap becomes (raise-closed u (λ n. closed g n u e))

pub up_by-closed : (n : ℕ) (σ : Assignment) → AssignsClosedTerms σ → up_by n (instantiating σ) ≡ instantiating σ
up_by-closed zero σ closed = refl
up_by-closed (suc n) σ closed = ap (up_by n) (fun_ext (up-closed σ closed)) ∙ up_by-closed n σ closed

module _ (σ : Assignment) (closed : AssignsClosedTerms σ) (p : ℕ) (outer target : Scope) (goes : Goes p outer target (instantiating σ))
    (inner local : List SimpleType) (sub later : Spine) (shaped : ShapedList outer sub inner) (put : InstantiatedSpine σ sub later) where
  abbrev ι : Replacement
  ι = instantiating σ

  -- both ways
  abbrev pub substituting : Replacement
  substituting = up_by (length local) (push_all later ι)

  abbrev pub size_of_inner : ℕ
  size_of_inner = shape_size (arrows inner base)

  shaped_later : ShapedList target later inner
  shaped_later = ShapedSpine-SubstitutedSpine p outer target ι goes shaped put

  pub goes_list : Goes size_of_inner (under_all local (under_all inner outer)) (under_all local outer) (image sub (length local))
  goes_list = Goes-image outer inner local sub shaped

  pub goes_after : Goes p (under_all local outer) (under_all local target) ι
  goes_after = subst (Goes p (under_all local outer) (under_all local target)) (up_by-closed (length local) σ closed) (Goes-up_by p local outer target ι goes)

  pub goes_before : Goes p (under_all local (under_all inner outer)) (under_all local (under_all inner target)) ι
  goes_before =
      subst (Goes p (under_all local (under_all inner outer)) (under_all local (under_all inner target))) (up_by-closed (length local) σ closed)
      (Goes-up_by p local (under_all inner outer) (under_all inner target) ι
      (subst (Goes p (under_all inner outer) (under_all inner target)) (up_by-closed (length inner) σ closed) (Goes-up_by p inner outer target ι goes)))

  pub goes_later : Goes size_of_inner (under_all local (under_all inner target)) (under_all local target) (image later (length local))
  goes_later = Goes-image target inner local later shaped_later

  pub goes_together : Goes (size_of_inner + p) (under_all local (under_all inner outer)) (under_all local target) substituting
  goes_together =
      Goes-up_by (size_of_inner + p) local (under_all inner outer) target (push_all later ι)
      (Goes-push_all (size_of_inner + p) inner later outer target ι (Goes-more p (size_of_inner + p) outer target ι (omega arith) goes) shaped_later (omega arith))

  pub list_then : IsThen (image sub (length local)) ι substituting
  list_then =
      subst (λ τ. IsThen (image sub (length local)) τ substituting) (up_by-closed (length local) σ closed)
      (IsThen-up_by (length local) (push_all sub stays) ι (push_all later ι) (IsThen-push_all_before stays ι ι put (IsThen-before ι)))

  pub then_list : IsThen ι (image later (length local)) substituting
  then_list =
      subst (λ τ. IsThen τ (image later (length local)) substituting) (up_by-closed (length local) σ closed)
      (IsThen-up_by (length local) ι (push_all later stays) (push_all later ι)
      (subst (λ τ. IsThen τ (push_all later stays) (push_all later ι)) (up_by-closed (args_count later) σ closed) (IsThen-push_all_after later ι stays ι (IsThen-after ι))))
