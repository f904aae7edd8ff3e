-- What is known of a candidate for a goal of a list: before its equations are unified, once they are, and once it is known what the goal becomes.
use Rattle.std.specs.Prelude.{◌≡◌, ℕ, ◌<◌, List, ◌++◌, map, Option, Some, None, All, Contains}
use Rattle.lf_definitions.specs.Syntax.{metavariable}
use Rattle.lf_definitions.specs.Typing.{LfGoal}
use Rattle.lf_definitions.specs.Signatures.{LfSignature}
use Rattle.lf_definitions.specs.ShapedGoals.{ShapedSignature, ShapedGoals}
use Rattle.lf_definitions.specs.Occurrence.{OccursIn}
use Rattle.lf_definitions.specs.GoalLists.{all_goals}
use Rattle.lf_terms.specs.Targets.{goal_of}
use Rattle.unification.specs.Equations.{Reason, refused}
use Rattle.lf_functions.specs.Endings.{unifier_of}
use Rattle.applications.specs.Methods.{LfCandidate}
use Rattle.applications.specs.Applications.{freezing, Completion, completion}
use Rattle.application_laws.specs.Conditions.{MayBeUsed}
use Rattle.completion_laws.specs.Laws.{IsUnified}
use Rattle.meta_goals.specs.Bindings.{LfBinding, assigned_of, assigning}
use Rattle.meta_goals.specs.GoalsOf.{goals_of}
use Rattle.meta_goals.specs.Laws.{HaveShapesOf}
use Rattle.build_shared.specs.declared.attempt.Attempt.{Attempt}
use Rattle.build_shared.specs.Seen.{seen_candidate}

-- the goals, the goal, the candidate, and the goals with the fresh ones
abbrev pub goals_at : Attempt → List LfGoal
goals_at a = all_goals (goals_of a.goals.now)

abbrev pub goal_at : Attempt → LfGoal
goal_at a = goal_of a.goal.now

abbrev pub candidate_at : Attempt → LfCandidate
candidate_at a = seen_candidate a.candidate.now

abbrev pub among_at : Attempt → List LfGoal
among_at a = goals_at a ++ (candidate_at a).opened.fresh

-- A candidate may be used for one of some shaped goals.
pub record IsOffered (sig : LfSignature) (goals : List LfGoal) (n : ℕ) (g : LfGoal) (c : LfCandidate) : Type 0 where
  pub of_signature : ShapedSignature sig
  pub of_goals : ShapedGoals sig goals
  pub below : All (λ h. h.id < n) goals
  pub one_of : Contains goals g
  pub may_be_used : MayBeUsed sig goals n g c

abbrev pub OfferedAt : Attempt → Type 0
OfferedAt a = IsOffered a.sig.now (goals_at a) a.first (goal_at a) (candidate_at a)

-- Its equations are unified by these bindings, which have the shapes of their goals' contexts.
pub record IsUnifiedBy (sig : LfSignature) (goals : List LfGoal) (n : ℕ) (g : LfGoal) (c : LfCandidate) (bindings : List LfBinding) : Type 0 where
  pub unified : IsUnified sig goals n g c (map assigned_of bindings)
  pub have_shapes : HaveShapesOf (goals ++ c.opened.fresh) bindings

abbrev pub UnifiedAt : Attempt → List LfBinding → Type 0
UnifiedAt a bindings = IsUnifiedBy a.sig.now (goals_at a) a.first (goal_at a) (candidate_at a) bindings

-- They are, or they are refused.
abbrev pub EndsWith : LfSignature → List LfGoal → ℕ → LfGoal → LfCandidate → Option (List LfBinding) → Type 0
EndsWith sig goals n g c None = (reason : Reason) × (unifier_of sig (goals ++ c.opened.fresh) g.context (freezing c.outcome goals g) c.equations ≡ refused reason)
EndsWith sig goals n g c (Some bindings) = IsUnifiedBy sig goals n g c bindings

abbrev pub EndsAt : Attempt → Option (List LfBinding) → Type 0
EndsAt a answer = EndsWith a.sig.now (goals_at a) a.first (goal_at a) (candidate_at a) answer

-- The goal becomes a term that does not mention it.
pub record IsCompletedBy (sig : LfSignature) (goals : List LfGoal) (n : ℕ) (g : LfGoal) (c : LfCandidate) (bindings : List LfBinding) (done : Completion) : Type 0 where
  pub unified_by : IsUnifiedBy sig goals n g c bindings
  pub completes : completion n (goals ++ c.opened.fresh) g c (assigning bindings) c.outcome ≡ Some done
  pub not_itself : OccursIn (metavariable g.id) done.becomes_term → ⊥

abbrev pub CompletedAt : Attempt → List LfBinding → Completion → Type 0
CompletedAt a bindings done = IsCompletedBy a.sig.now (goals_at a) a.first (goal_at a) (candidate_at a) bindings done
