-- What an assignment makes of a metavariable that is applied to variables.
use Rattle.std.proofs.Common.{◌≡◌, ℕ, suc, ◌<◌, List, Option, Some, None, true, refl, sym, ap, ap₂, ◌∙◌, arith}
use Rattle.std.specs.Prelude.{nat_eq}
use Rattle.std.proofs.lemmas.Bool.{eqb-true, eq-eqb}
use Rattle.lf_definitions.specs.Syntax.{bound, constant, metavariable, LfTerm, at, Spine, SimpleType, base, shape_size, arity, lams}
use Rattle.lf_definitions.specs.Renaming.{rename, next_by}
use Rattle.lf_definitions.specs.Shaping.{Scope, Shaped, shaped_at}
use Rattle.lf_definitions.specs.Occurrence.{OccursIn}
use Rattle.lf_definitions.specs.Substitution.{stays, substituted_becomes, Applied}
use Rattle.lf_definitions.specs.Replacements.{Fits, fits_stays, fits_becomes, Goes}
use Rattle.lf_definitions.specs.Expansion.{eta}
use Rattle.lf_definitions.specs.Instantiation.{Assignment, assigned, instantiating, Instantiated}
use Rattle.lf_definitions.proofs.Options.{Some-Some}
use Rattle.lf_definitions.proofs.Expansion.{Shaped-eta}
use Rattle.head_laws.specs.AssignmentLaws.{AssignsClosedTerms}
use Rattle.head_laws.proofs.Known.{known_term}
use Rattle.unification.specs.Solutions.{or_itself, value_of}
use Rattle.unifiers.proofs.Completion.{completed_at, completed, completed_term}
use Rattle.unification.proofs.PatternSpines.{AreVariables, no_variables, one_variable}
use Rattle.unification.proofs.Spreading.{spreading}
use Rattle.unifiers.proofs.Patterns.{variables_stay, variables_are_shaped, renamed_body}

-- The eta-long form of a metavariable speaks of no variable.
abbrev known_alone : SimpleType → Scope
known_alone s (bound n) = None
known_alone s (constant c) = None
known_alone s (metavariable g) = Some s

eta_closed : (g : ℕ) (s : SimpleType) (n : ℕ) → OccursIn (bound n) (eta (metavariable g) s) → ⊥
eta_closed g s n o = let known = known_term (Shaped-eta s (known_alone s) (metavariable g) refl) (bound n) o in none known.1
  where
    none : {c : SimpleType} → None ≡ Some c → ⊥
    none e = cc

pub value_closed : (θ : Assignment) → AssignsClosedTerms θ → (g : ℕ) (s : SimpleType) (n : ℕ) → OccursIn (bound n) (value_of θ g s) → ⊥
value_closed θ closed g s n = each (θ g) refl
  where
    each : (v : Option LfTerm) → θ g ≡ v → OccursIn (bound n) (or_itself v g s) → ⊥
    each None e o = eta_closed g s n o
    each (Some u) e o = closed g n u e o

module _ (p : ℕ) (Γ Δ : Scope) (θ : Assignment) (goes : Goes p Γ Δ (instantiating θ)) where
  stays_there : {n : ℕ} {a : SimpleType} → Fits Δ p (stays (bound n)) a → Δ (bound n) ≡ Some a
  stays_there (fits_stays f) = f

  pub variables_there : {ns : List ℕ} {ts : Spine} {s : SimpleType} → AreVariables Γ ns ts s → AreVariables Δ ns ts s
  variables_there no_variables = no_variables
  variables_there (one_variable {n = n} {a = a} known is rest) = one_variable (stays_there (goes (bound n) a known)) is (variables_there rest)

  value_at : (g : ℕ) (v : Option LfTerm) (s : SimpleType) → Fits Δ p (assigned g v) s → Shaped Δ (or_itself v g s) s
  value_at g None s (fits_stays e) = Shaped-eta s Δ (metavariable g) e
  value_at g (Some u) s (fits_becomes shaped small) = shaped

  pub shaped_value : (g : ℕ) (s : SimpleType) → Γ (metavariable g) ≡ Some s → Shaped Δ (value_of θ g s) s
  shaped_value g s known = value_at g (θ g) s (goes (metavariable g) s known)

  module _ (g : ℕ) (s : SimpleType) (known : Γ (metavariable g) ≡ Some s) where
    abbrev with_value : Assignment
    with_value = completed (nat_eq g) Γ θ

    value_there : with_value g ≡ Some (value_of θ g s)
    value_there = ap₂ (λ b o. completed_at b o g (θ g)) (eq-eqb g g refl) known

    small : (m : ℕ) (c : SimpleType) → Γ (metavariable m) ≡ Some c → nat_eq g m ≡ true → shape_size c < suc (shape_size s)
    small m c e same =
        let number : g ≡ m = eqb-true g m same in
        let shape : s ≡ c = Some-Some (sym known ∙ ap (λ k. Γ (metavariable k)) number ∙ e) in
        let size : shape_size s ≡ shape_size c = ap shape_size shape in
        omega arith

    instance_applied : {ns : List ℕ} {ts : Spine} {r : LfTerm} → AreVariables Γ ns ts s → Applied stays (value_of θ g s) ts r → Instantiated θ (at (metavariable g) ts) r
    instance_applied {ts = ts} {r = r} variables applied =
        (completed_term (nat_eq g) Γ (suc (shape_size s)) small θ p Δ goes (at (metavariable g) ts) r base (shaped_at s known (variables_are_shaped variables))).1
        (substituted_becomes (value_of θ g s) ts (ap (assigned g) value_there) (variables_stay variables with_value) applied)

-- It is the body of what is put, renamed.
pub record HasInstance (θ : Assignment) (g : ℕ) (ns : List ℕ) (ts : Spine) (s : SimpleType) : Type 0 where
  pub body : LfTerm
  pub value_is : value_of θ g s ≡ lams (arity s) body
  pub result : Instantiated θ (at (metavariable g) ts) (rename (spreading ns (next_by 0)) body)

pub has_instance : (p : ℕ) (Γ Δ : Scope) (θ : Assignment) → Goes p Γ Δ (instantiating θ) → (g : ℕ) (s : SimpleType) → Γ (metavariable g) ≡ Some s →
    {ns : List ℕ} {ts : Spine} → AreVariables Γ ns ts s → HasInstance θ g ns ts s
has_instance p Γ Δ θ goes g s known variables =
    let r = renamed_body (shaped_value p Γ Δ θ goes g s known) (variables_there p Γ Δ θ goes variables) in
    record { body = r.body; value_is = r.value_is; result = instance_applied p Γ Δ θ goes g s known variables r.applied }
