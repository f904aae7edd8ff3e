-- The laws of candidates that are unified: where their assignments go, and which of them can't count.
use Rattle.std.specs.Prelude.{◌≡◌, ◌↔◌, ℕ, ◌<◌, List, [], ◌∷◌, ◌++◌, map, length, Some, None, IsTrue, All, Contains}
use Rattle.lf_definitions.specs.Syntax.{metavariable, lams, atomic, LfTerm}
use Rattle.lf_definitions.specs.ShapedGoals.{ShapedSignature, ShapedGoal, ShapedGoals}
use Rattle.lf_definitions.specs.Occurrence.{OccursIn}
use Rattle.lf_definitions.specs.Typing.{Typed, LfGoal, goal_type}
use Rattle.lf_definitions.specs.Signatures.{LfSignature, typing_in}
use Rattle.lf_definitions.specs.Instantiation.{Assignment, LfAssigned, assignment_of}
use Rattle.head_laws.specs.AssignmentLaws.{AssignsClosedTerms}
use Rattle.goal_lists.specs.Assigning.{Leaves}
use Rattle.goal_lists.specs.Laws.{GoesToGoals}
use Rattle.unification.specs.Equations.{solved}
use Rattle.lf_functions.specs.Instances.{instance_of_goal}
use Rattle.lf_functions.specs.Checking.{has_type}
use Rattle.lf_functions.specs.Endings.{unifier_of}
use Rattle.applications.specs.Methods.{LfCandidate}
use Rattle.applications.specs.Applications.{freezing, Completion, completion, entry_of, put_into, whole_assignment, goals_left, entries_are_typed, where_typed}
use Rattle.application_laws.specs.Conditions.{MayBeUsed}

-- A candidate may be used for one of some shaped goals, with fresh numbers from `n` on, and its equations are unified by these entries.
pub record IsUnified (sig : LfSignature) (goals : List LfGoal) (n : ℕ) (g : LfGoal) (c : LfCandidate) (entries : List LfAssigned) : Type 0 where
  pub of_signature : ShapedSignature sig
  pub of_goals : ShapedGoals sig goals
  pub below : All (λ h. h.id < n) goals
  pub one_of : Contains goals g
  pub may_be_used : MayBeUsed sig goals n g c
  pub solves : unifier_of sig (goals ++ c.opened.fresh) g.context (freezing c.outcome goals g) c.equations ≡ solved entries

-- What the unifier assigns are closed terms, which go from the goals and the fresh ones to themselves.
abbrev pub UnifiersGo : Type 0
UnifiersGo =
    (sig : LfSignature) (goals : List LfGoal) (n : ℕ) (g : LfGoal) (c : LfCandidate) (entries : List LfAssigned) → IsUnified sig goals n g c entries →
    AssignsClosedTerms (assignment_of entries) × GoesToGoals sig (goals ++ c.opened.fresh) (goals ++ c.opened.fresh) (assignment_of entries)

-- A candidate does not count where what the goal becomes mentions the goal.
abbrev pub NothingMentionsItself : Type 0
NothingMentionsItself =
    (sig : LfSignature) (goals : List LfGoal) (n : ℕ) (g : LfGoal) (c : LfCandidate) (entries : List LfAssigned) → IsUnified sig goals n g c entries →
    (done : Completion) → completion n (goals ++ c.opened.fresh) g c (assignment_of entries) c.outcome ≡ Some done →
    OccursIn (metavariable g.id) done.becomes_term → where_typed sig goals g c entries (Some done) ≡ None

-- the whole assignment of a completion, and what it leaves
abbrev pub whole_of : List LfGoal → LfGoal → LfCandidate → List LfAssigned → Completion → List LfAssigned
whole_of goals g c entries done = whole_assignment (goals ++ c.opened.fresh) g done.becomes_term entries

abbrev pub left_of : List LfGoal → LfGoal → LfCandidate → List LfAssigned → Completion → List LfGoal
left_of goals g c entries done = goals_left (goals ++ c.opened.fresh) (assignment_of (whole_of goals g c entries done)) (goals ++ c.opened.fresh) ++ done.more

-- The goal under all entries but its own: a new goal may mention it, where it mentions itself.
abbrev pub goal_besides : List LfGoal → LfGoal → LfCandidate → List LfAssigned → Completion → LfGoal
goal_besides goals g c entries done =
    instance_of_goal (goals ++ c.opened.fresh) (assignment_of (map (put_into (goals ++ c.opened.fresh) (entry_of g done.becomes_term)) entries)) g

-- Where what the goal becomes does not mention the goal: with the goal besides, the list that is left is shaped, the whole assignment goes to it by closed terms, and the
-- entries are tested as in the list that is left.
pub record IsTestedBesides (sig : LfSignature) (goals : List LfGoal) (g : LfGoal) (c : LfCandidate) (entries : List LfAssigned) (done : Completion) : Type 0 where
  pub closed : AssignsClosedTerms (assignment_of (whole_of goals g c entries done))
  pub goes : GoesToGoals sig (goals ++ c.opened.fresh) (left_of goals g c entries done ++ goal_besides goals g c entries done ∷ []) (assignment_of (whole_of goals g c entries done))
  pub shaped : ShapedGoals sig (left_of goals g c entries done ++ goal_besides goals g c entries done ∷ [])
  pub tested_alike :
      entries_are_typed sig (goals ++ c.opened.fresh) (assignment_of (whole_of goals g c entries done)) (left_of goals g c entries done ++ goal_besides goals g c entries done ∷ []) (goals ++ c.opened.fresh)
      ≡ entries_are_typed sig (goals ++ c.opened.fresh) (assignment_of (whole_of goals g c entries done)) (left_of goals g c entries done) (goals ++ c.opened.fresh)

abbrev pub CompletionsAreTestedBesides : Type 0
CompletionsAreTestedBesides =
    (sig : LfSignature) (goals : List LfGoal) (n : ℕ) (g : LfGoal) (c : LfCandidate) (entries : List LfAssigned) → IsUnified sig goals n g c entries →
    (done : Completion) → completion n (goals ++ c.opened.fresh) g c (assignment_of entries) c.outcome ≡ Some done →
    (OccursIn (metavariable g.id) done.becomes_term → ⊥) → IsTestedBesides sig goals g c entries done

-- What an assignment leaves of goals is `goals_left`, wherever it goes from them.
abbrev pub WhatIsLeftIsGoalsLeft : Type 0
WhatIsLeftIsGoalsLeft =
    (sig : LfSignature) (goals others : List LfGoal) (σ : Assignment) → ShapedGoals sig goals → GoesToGoals sig goals others σ →
    (some left : List LfGoal) → All (Contains goals) some → Leaves σ some left → left ≡ goals_left goals σ some

-- The abstraction over a goal's context has the goal's type where the body has the target as its type in the context.
abbrev pub BodiesAreTested : Type 0
BodiesAreTested =
    (sig : LfSignature) (goals : List LfGoal) → ShapedSignature sig → ShapedGoals sig goals → (h : LfGoal) → ShapedGoal sig goals h → (b : LfTerm) →
    IsTrue (has_type sig goals [] (lams (length h.context) b) (goal_type h)) ↔ Typed (typing_in sig goals h.context) b (atomic h.target)
