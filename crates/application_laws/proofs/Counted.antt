-- What is known of an application that a candidate gives.
use Rattle.std.proofs.Common.{◌≡◌, ◌⊎◌, inl, inr, ℕ, ◌+◌, Bool, true, false, Option, Some, None, List, [], ◌∷◌, ◌++◌, All, length, refl, sym, ap}
use Rattle.std.specs.Prelude.{not, ◌&&◌, is_some, nat_eq, if◌then◌else◌}
use Rattle.std.specs.List.{list_any, list_all}
use Rattle.std.proofs.lemmas.List.Elements.{All-nil, All-cons, All-head, All-tail}
use Rattle.lf_definitions.specs.Syntax.{metavariable, at, joined, arg, no_args}
use Rattle.lf_definitions.specs.Typing.{LfGoal}
use Rattle.lf_definitions.specs.Signatures.{LfSignature}
use Rattle.lf_definitions.specs.GoalLists.{ids}
use Rattle.lf_definitions.specs.Instantiation.{Assignment, LfAssigned, assignment_of}
use Rattle.lf_definitions.proofs.Options.{Some-Some}
use Rattle.unification.specs.Equations.{Ending, solved, refused}
use Rattle.lf_functions.specs.Instances.{instance_of, instance_of_atom}
use Rattle.lf_functions.specs.Endings.{unifier_of}
use Rattle.opening_laws.specs.Openings.{kept_variables}
use Rattle.applications.specs.OpenedTypes.{kept_entries}
use Rattle.applications.specs.Methods.{LfCandidate, Outcome, closes, adds}
use Rattle.applications.specs.Applications.{LfApplication, freezing, may_be_added, goal_with, Completion, completion, whole_assignment, goals_left, fresh_left, entries_are_typed, entries_among, where_typed, completed, application_of, of_candidates, with_some}

-- all goals and the fresh ones, the whole assignment, and what is left beside it
abbrev pub all_with : List LfGoal → LfCandidate → List LfGoal
all_with goals c = goals ++ c.opened.fresh

abbrev pub whole_with : List LfGoal → LfGoal → LfCandidate → List LfAssigned → Completion → List LfAssigned
whole_with goals g c entries done = whole_assignment (all_with goals c) g done.becomes_term entries

abbrev pub left_with : List LfGoal → LfGoal → LfCandidate → List LfAssigned → Completion → List LfGoal
left_with goals g c entries done = goals_left (all_with goals c) (assignment_of (whole_with goals g c entries done)) (all_with goals c) ++ done.more

abbrev pub application_with : List LfGoal → LfGoal → LfCandidate → List LfAssigned → Completion → LfApplication
application_with goals g c entries done =
    let all = all_with goals c in
    let whole = whole_with goals g c entries done in record {
      label = c.label;
      assigned = entries_among (ids goals) whole;
      proofs = fresh_left (λ mark. mark) all (assignment_of whole) c.opened.fresh c.are_proofs ++ done.more;
      witnesses = fresh_left not all (assignment_of whole) c.opened.fresh c.are_proofs;
      assigns_others = list_any (λ e. not (nat_eq e.assigned_goal g.id)) (entries_among (ids goals) whole);
    }

pub record IsCounted (sig : LfSignature) (n : ℕ) (goals : List LfGoal) (g : LfGoal) (c : LfCandidate) (a : LfApplication) : Type 0 where
  pub entries : List LfAssigned
  pub done : Completion
  pub solves : unifier_of sig (all_with goals c) g.context (freezing c.outcome goals g) c.equations ≡ solved entries
  pub completes : completion n (all_with goals c) g c (assignment_of entries) c.outcome ≡ Some done
  pub are_typed : entries_are_typed sig (all_with goals c) (assignment_of (whole_with goals g c entries done)) (left_with goals g c entries done) (all_with goals c) ≡ true
  pub is : a ≡ application_with goals g c entries done

pub is_counted : (sig : LfSignature) (n : ℕ) (goals : List LfGoal) (g : LfGoal) (c : LfCandidate) (a : LfApplication) → application_of sig n goals g c ≡ Some a → IsCounted sig n goals g c a
is_counted sig n goals g c a e = with_end (unifier_of sig (all_with goals c) g.context (freezing c.outcome goals g) c.equations) refl e
  where
    typed_or_not : (entries : List LfAssigned) → unifier_of sig (all_with goals c) g.context (freezing c.outcome goals g) c.equations ≡ solved entries → (done : Completion) →
        completion n (all_with goals c) g c (assignment_of entries) c.outcome ≡ Some done → (b : Bool) →
        entries_are_typed sig (all_with goals c) (assignment_of (whole_with goals g c entries done)) (left_with goals g c entries done) (all_with goals c) ≡ b →
        (if b then Some (application_with goals g c entries done) else None) ≡ Some a → IsCounted sig n goals g c a
    typed_or_not entries solves done completes true typed f = record { entries = entries; done = done; solves = solves; completes = completes; are_typed = typed; is = sym (Some-Some f) }
    typed_or_not entries solves done completes false typed f = absurd cc

    with_completion : (entries : List LfAssigned) → unifier_of sig (all_with goals c) g.context (freezing c.outcome goals g) c.equations ≡ solved entries → (o : Option Completion) →
        completion n (all_with goals c) g c (assignment_of entries) c.outcome ≡ o → where_typed sig goals g c entries o ≡ Some a → IsCounted sig n goals g c a
    with_completion entries solves None completes f = absurd cc
    with_completion entries solves (Some done) completes f =
        typed_or_not entries solves done completes
        (entries_are_typed sig (all_with goals c) (assignment_of (whole_with goals g c entries done)) (left_with goals g c entries done) (all_with goals c)) refl f

    with_end : (ending : Ending) → unifier_of sig (all_with goals c) g.context (freezing c.outcome goals g) c.equations ≡ ending → completed sig n goals g c ending ≡ Some a → IsCounted sig n goals g c a
    with_end (refused reason) solves f = absurd cc
    with_end (solved entries) solves f = with_completion entries solves (completion n (all_with goals c) g c (assignment_of entries) c.outcome) refl f

-- what is true of what each candidate gives
pub All-of_candidates : (P : LfApplication → Type 0) (Q : LfCandidate → Type 0) (sig : LfSignature) (n : ℕ) (goals : List LfGoal) (g : LfGoal) →
    ((c : LfCandidate) → Q c → (a : LfApplication) → application_of sig n goals g c ≡ Some a → P a) → (cs : List LfCandidate) → All Q cs → All P (of_candidates sig n goals g cs)
All-of_candidates P Q sig n goals g each [] all = All-nil P
All-of_candidates P Q sig n goals g each (c ∷ rest) all = step (application_of sig n goals g c) refl (All-of_candidates P Q sig n goals g each rest (All-tail Q c rest all))
  where
    step : (o : Option LfApplication) → application_of sig n goals g c ≡ o → All P (of_candidates sig n goals g rest) → All P (with_some o (of_candidates sig n goals g rest))
    step None e later = later
    step (Some a) e later = All-cons P a (of_candidates sig n goals g rest) (each c (All-head Q c rest all) a e) later

-- A new goal comes only with all fresh goals assigned.
pub record AddsOne (n : ℕ) (goals : List LfGoal) (g : LfGoal) (c : LfCandidate) (σ : Assignment) (done : Completion) : Type 0 where
  pub kept : List ℕ
  pub outcome_is : c.outcome ≡ adds kept
  pub all_assigned : list_all (λ f. is_some (σ f.id)) c.opened.fresh ≡ true
  pub more_is : done.more ≡ goal_with (n + length c.opened.fresh) g kept (instance_of_atom goals σ c.opened.end) ∷ []

abbrev pub one_more : ℕ → List LfGoal → LfGoal → LfCandidate → Assignment → List ℕ → Completion
one_more n goals g c σ kept = record {
  becomes_term = at (metavariable (n + length c.opened.fresh))
      (joined (kept_variables kept (length g.context) (kept_entries kept 0 g.context)) (arg (instance_of goals σ (at c.head c.opened.terms)) no_args));
  more = goal_with (n + length c.opened.fresh) g kept (instance_of_atom goals σ c.opened.end) ∷ [];
}

pub none_or_one : (n : ℕ) (goals : List LfGoal) (g : LfGoal) (c : LfCandidate) (σ : Assignment) (done : Completion) (o : Outcome) → c.outcome ≡ o → completion n goals g c σ o ≡ Some done →
    (done.more ≡ []) ⊎ AddsOne n goals g c σ done
none_or_one n goals g c σ done closes is e = inl (ap (λ d. d.more) (sym (Some-Some e)))
none_or_one n goals g c σ done (adds kept) is e =
    step (list_all (λ f. is_some (σ f.id)) c.opened.fresh) refl (may_be_added g kept (instance_of_atom goals σ c.opened.end)) e
  where
    step : (b : Bool) → list_all (λ f. is_some (σ f.id)) c.opened.fresh ≡ b → (m : Bool) → (if b && m then Some (one_more n goals g c σ kept) else None) ≡ Some done → (done.more ≡ []) ⊎ AddsOne n goals g c σ done
    step true assigned true f = inr (record { kept = kept; outcome_is = is; all_assigned = assigned; more_is = ap (λ d. d.more) (sym (Some-Some f)) })
    step true assigned false f = absurd cc
    step false assigned m f = absurd cc
