-- The laws of unifiers, as they are stated.
use Rattle.std.proofs.Common.{◌≡◌, ℕ, zero, suc, ◌↔◌, List, Option, Some, None, All, refl, sym, ap, subst}
use Rattle.std.specs.Prelude.{IsTrue}
use Rattle.std.proofs.lemmas.List.Elements.{All-nil, All-weaker}
use Rattle.lf_definitions.specs.Syntax.{LfHead, bound, constant, metavariable, LfTerm, SimpleType, lams}
use Rattle.lf_definitions.specs.Shaping.{Scope}
use Rattle.lf_definitions.specs.Occurrence.{OccursIn, occurs_lam}
use Rattle.lf_definitions.specs.Substitution.{stays}
use Rattle.lf_definitions.specs.Instantiation.{Assignment, assigned, instantiating, Instantiated, LfAssigned, assignment_of}
use Rattle.lf_definitions.proofs.Renaming.{Substituted-stays}
use Rattle.head_laws.proofs.Replacing.{Substituted-agree}
use Rattle.unification.specs.Equations.{Ending, solved, refused, Unifying}
use Rattle.unification.specs.Transitions.{Frozen, Ends, ends_solved, ends_refused, ends_later}
use Rattle.unification.specs.Solutions.{ShapedEquations, Solves, MaySolve, or_itself, IsInstanceOf, ShapedEntry, SaysNone}
use Rattle.unification.proofs.Laws.{answers_are_resolved}
use Rattle.unification.proofs.ShapedSteps.{step_keeps_shapes}
use Rattle.unifiers.specs.Laws.{SolutionsAreInstances, AnswersSolve, InstancesFollow, RefusedEquationsHaveNoSolution}
use Rattle.unifiers.proofs.Following.{follow_term, follow_spine}
use Rattle.unifiers.proofs.Entries.{term_put, found_entry, Meets, instance_from, meets_each, entries_closed, entries_go}
use Rattle.unifiers.proofs.Steps.{Fulfils, step_fulfils, step_keeps_entries}
use Rattle.unifiers.proofs.Stops.{stops_unsolved}

-- what an ending says of the assignments that solve what is left and meet what was assigned
abbrev Says : Scope → Assignment → Ending → Unifying → Type 0
Says Γ θ (solved entries) state = Fulfils Γ θ state ↔ All (Meets Γ θ) entries
Says Γ θ (refused reason) state = SaysNone reason → Fulfils Γ θ state → ⊥

says_before : (Γ : Scope) (θ : Assignment) (ending : Ending) (state other : Unifying) → Fulfils Γ θ state ↔ Fulfils Γ θ other → Says Γ θ ending other → Says Γ θ ending state
says_before Γ θ (solved entries) state other step said = (λ fulfils. said.0 (step.0 fulfils), λ meets. step.1 (said.1 meets))
says_before Γ θ (refused reason) state other step said = λ none fulfils. said none (step.0 fulfils)

module _ (kinds : ℕ → Option SimpleType) (p : ℕ) (Γ Δ : Scope) (frozen : Frozen) (θ : Assignment) (may : MaySolve p Γ Δ frozen θ) where
  says : {state : Unifying} {ending : Ending} → Ends frozen state ending → ShapedEquations kinds Γ state.equations → All (ShapedEntry Γ) state.assigned → Says Γ θ ending state
  says ends_solved shaped entries = (λ fulfils. fulfils.1, λ meets. (All-nil (Solves θ), meets))
  says (ends_refused stop) shaped entries = λ none fulfils. stops_unsolved kinds p Γ Δ frozen θ may stop none shaped fulfils.0
  says (ends_later {state = state} {other = other} {ending = ending} step rest) shaped entries =
      says_before Γ θ ending state other (step_fulfils kinds p Γ Δ frozen θ may step shaped entries)
      (says rest (step_keeps_shapes kinds Γ step shaped) (step_keeps_entries kinds Γ step shaped entries))

pub refused_equations_have_no_solution : RefusedEquationsHaveNoSolution
refused_equations_have_no_solution kinds p Γ Δ frozen equations reason θ shaped unifies none may solves =
    says kinds p Γ Δ frozen θ may unifies shaped (All-nil (ShapedEntry Γ)) none (solves, All-nil (Meets Γ θ))

-- Answers are themselves assignments that are asked about, and instances of themselves.
spared : (frozen : Frozen) (entries : List LfAssigned) → All (λ e. IsTrue (frozen e.assigned_goal) → ⊥) entries → (g : ℕ) → IsTrue (frozen g) → assignment_of entries g ≡ None
spared frozen entries unfrozen g is_frozen = each (assignment_of entries g) refl
  where
    each : (v : Option LfTerm) → assignment_of entries g ≡ v → assignment_of entries g ≡ None
    each None e = e
    each (Some u) e = absurd (found_entry (λ m x. IsTrue (frozen m) → ⊥) entries unfrozen g u e is_frozen)

in_body : (n : ℕ) (b : LfTerm) (g : ℕ) → OccursIn (metavariable g) (lams n b) → OccursIn (metavariable g) b
in_body zero b g o = o
in_body (suc n) b g (occurs_lam _ _ o) = in_body n b g o

unchanged : (σ : Assignment) (u : LfTerm) → ((g : ℕ) → OccursIn (metavariable g) u → σ g ≡ None) → Instantiated σ u u
unchanged σ u none = Substituted-agree (Substituted-stays u) (instantiating σ) each
  where
    each : (h : LfHead) → OccursIn h u → stays h ≡ instantiating σ h
    each (bound n) o = refl
    each (constant c) o = refl
    each (metavariable g) o = sym (ap (assigned g) (none g o))

instance_of_itself : (Γ : Scope) (entries : List LfAssigned) → All (λ e. (g : ℕ) → OccursIn (metavariable g) e.body → assignment_of entries g ≡ None) entries →
    IsInstanceOf Γ (assignment_of entries) (assignment_of entries)
instance_of_itself Γ entries resolved g s u known e =
    let none =
    found_entry (λ m x. (k : ℕ) → OccursIn (metavariable k) x → assignment_of entries k ≡ None) entries
    (All-weaker (λ f. (k : ℕ) → OccursIn (metavariable k) f.body → assignment_of entries k ≡ None) (λ f. (k : ℕ) → OccursIn (metavariable k) (term_put f) → assignment_of entries k ≡ None)
    (λ f apart k o. apart k (in_body f.binders_count f.body k o)) entries resolved)
    g u e in
    subst (Instantiated (assignment_of entries) u) (sym (ap (λ v. or_itself v g s) e)) (unchanged (assignment_of entries) u none)

pub solutions_are_instances : SolutionsAreInstances
solutions_are_instances kinds p Γ Δ frozen equations entries θ shaped unifies may =
    let said = says kinds p Γ Δ frozen θ may unifies shaped (All-nil (ShapedEntry Γ)) in
    let answer = answers_are_resolved kinds Γ frozen equations entries shaped unifies in (
      λ solves. instance_from Γ θ entries (said.0 (solves, All-nil (Meets Γ θ))),
      λ instance. (said.1 (meets_each Γ θ entries answer.each_once instance)).0,
    )

pub answers_solve : AnswersSolve
answers_solve kinds Γ frozen equations entries shaped unifies =
    let answer = answers_are_resolved kinds Γ frozen equations entries shaped unifies in
    let go = entries_go Γ entries answer.shaped in
    let may : MaySolve go.0 Γ Γ frozen (assignment_of entries) = record { goes = go.1; closed = entries_closed Γ entries answer.shaped; spares_frozen = spared frozen entries answer.of_unfrozen } in
    ((go.0, may), (solutions_are_instances kinds go.0 Γ Γ frozen equations entries (assignment_of entries) shaped unifies may).1 (instance_of_itself Γ entries answer.resolved))

pub instances_follow : InstancesFollow
instances_follow kinds p Γ Δ frozen equations entries θ shaped unifies may instance =
    let go = entries_go Γ entries (answers_are_resolved kinds Γ frozen equations entries shaped unifies).shaped in
    (follow_term go.0 p Γ Δ (assignment_of entries) θ go.1 may.goes instance, follow_spine go.0 p Γ Δ (assignment_of entries) θ go.1 may.goes instance)
