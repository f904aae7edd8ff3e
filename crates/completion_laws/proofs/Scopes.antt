-- Scopes that agree on what occurs, and assignments that go from goals to a scope.
use Rattle.std.proofs.Common.{◌≡◌, ℕ, Option, Some, None, option_map, List, [], length, refl, sym, ap, ◌∙◌, subst}
use Rattle.lf_definitions.specs.Syntax.{LfHead, bound, constant, metavariable, LfTerm, SimpleType, LfType, shape_of}
use Rattle.lf_definitions.specs.Shaping.{Scope, under_all, Shaped, ShapedType}
use Rattle.lf_definitions.specs.ShapedGoals.{scope_in}
use Rattle.lf_definitions.specs.Occurrence.{OccursIn, OccursInType}
use Rattle.lf_definitions.specs.Typing.{LfGoal, type_of_metavariable}
use Rattle.lf_definitions.specs.Signatures.{LfSignature}
use Rattle.lf_definitions.specs.Replacements.{Fits, fits_stays, fits_becomes, Goes}
use Rattle.lf_definitions.specs.Instantiation.{Assignment, assigned, instantiating}
use Rattle.lf_definitions.proofs.Renaming.{same_head, rename-same_head}
use Rattle.lf_definitions.proofs.ShapedGoals.{shapes_of-typing_in}
use Rattle.lf_definitions.proofs.Telescopes.{Goes-up_by}
use Rattle.head_laws.specs.AssignmentLaws.{AssignsClosedTerms}
use Rattle.head_laws.proofs.Assignments.{up_by-closed}
use Rattle.head_laws.proofs.Known.{known_term, known_type}
use Rattle.unification.proofs.Spreading.{Shaped-rename_occurring}
use Rattle.lf_functions.specs.Instances.{goals_depth}
use Rattle.lf_functions.proofs.Depths.{shape_below_depth}
use Rattle.application_laws.proofs.Inside.{same_type}

-- Where the heads of which something is true are known, another scope knows them by the same shapes.
abbrev pub GrowsOn : (LfHead → Type 0) → Scope → Scope → Type 0
GrowsOn P Γ Δ = (h : LfHead) (s : SimpleType) → P h → Γ h ≡ Some s → Δ h ≡ Some s

pub term_elsewhere : {Γ : Scope} {t : LfTerm} {s : SimpleType} → Shaped Γ t s → (Δ : Scope) → GrowsOn (λ h. OccursIn h t) Γ Δ → Shaped Δ t s
term_elsewhere {t = t} {s = s} p Δ grow = subst (λ x. Shaped Δ x s) (rename-same_head t) (Shaped-rename_occurring p same_head Δ grow)

pub type_elsewhere : {kinds : ℕ → Option SimpleType} {Γ : Scope} {a : LfType} → ShapedType kinds Γ a → (Δ : Scope) → GrowsOn (λ h. OccursInType h a) Γ Δ → ShapedType kinds Δ a
type_elsewhere p Δ grow = same_type p Δ (λ h o. let known = known_type p h o in known.1 ∙ sym (grow h known.0 o known.1))

-- Under more variables an assignment of closed terms goes on.
pub goes_inside : (depth : ℕ) (local : List SimpleType) (Γ Δ : Scope) (σ : Assignment) → AssignsClosedTerms σ → Goes depth Γ Δ (instantiating σ) → Goes depth (under_all local Γ) (under_all local Δ) (instantiating σ)
goes_inside depth local Γ Δ σ closed goes = subst (Goes depth (under_all local Γ) (under_all local Δ)) (up_by-closed (length local) σ closed) (Goes-up_by depth local Γ Δ (instantiating σ) goes)

-- Among goals, with no variables.
module _ (sig : LfSignature) where
  -- A metavariable has the shape of its type.
  pub shape_found : (goals : List LfGoal) (m : ℕ) → scope_in sig goals [] (metavariable m) ≡ option_map shape_of (type_of_metavariable goals m)
  shape_found goals m = ap (λ Γ. Γ (metavariable m)) (sym (shapes_of-typing_in sig goals []))

  -- Each scope grows where its metavariables do.
  pub grows_by_numbers : (goals others : List LfGoal) (P : LfHead → Type 0) →
      ((m : ℕ) (s : SimpleType) → P (metavariable m) → scope_in sig goals [] (metavariable m) ≡ Some s → scope_in sig others [] (metavariable m) ≡ Some s) → GrowsOn P (scope_in sig goals []) (scope_in sig others [])
  grows_by_numbers goals others P grow (bound n) s p e = absurd cc
  grows_by_numbers goals others P grow (constant c) s p e = e
  grows_by_numbers goals others P grow (metavariable m) s p e = grow m s p e

  -- What is shaped among goals speaks of no variable.
  pub closed_among : (goals : List LfGoal) (σ : Assignment) → ((m : ℕ) (u : LfTerm) → σ m ≡ Some u → (s : SimpleType) × Shaped (scope_in sig goals []) u s) → AssignsClosedTerms σ
  closed_among goals σ shaped m n u e o = let p = shaped m u e in let known = known_term p.1 (bound n) o in none known.1
    where
      none : {s : SimpleType} → None ≡ Some s → ⊥
      none f = absurd cc

  -- An assignment goes to others where it puts terms that are shaped there, and each goal that it does not assign is known there.
  pub goes_from : (goals others : List LfGoal) (σ : Assignment) →
      ((m : ℕ) (s : SimpleType) (u : LfTerm) → scope_in sig goals [] (metavariable m) ≡ Some s → σ m ≡ Some u → Shaped (scope_in sig others []) u s) →
      ((m : ℕ) (s : SimpleType) → scope_in sig goals [] (metavariable m) ≡ Some s → σ m ≡ None → scope_in sig others [] (metavariable m) ≡ Some s) →
      Goes (goals_depth goals) (scope_in sig goals []) (scope_in sig others []) (instantiating σ)
  goes_from goals others σ put free (bound n) s e = absurd cc
  goes_from goals others σ put free (constant c) s e = fits_stays e
  goes_from goals others σ put free (metavariable m) s e = each (σ m) refl
    where
      each : (o : Option LfTerm) → σ m ≡ o → Fits (scope_in sig others []) (goals_depth goals) (assigned m o) s
      each None is = fits_stays (free m s e is)
      each (Some u) is = fits_becomes (put m s u e is) (shape_below_depth goals m s e)
