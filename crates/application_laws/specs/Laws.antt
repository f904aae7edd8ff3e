-- The laws of applications among shaped goals.
use Rattle.std.specs.Prelude.{◌≡◌, ℕ, ◌<◌, Bool, true, List, ◌++◌, All, Contains}
use Rattle.lf_definitions.specs.ShapedGoals.{ShapedSignature, ShapedGoals}
use Rattle.lf_definitions.specs.Typing.{LfGoal}
use Rattle.lf_definitions.specs.Signatures.{LfSignature}
use Rattle.lf_definitions.specs.GoalLists.{LfGoals, all_goals, first_goal}
use Rattle.lf_functions.specs.Endings.{unifier_of}
use Rattle.applications.specs.Methods.{Method}
use Rattle.applications.specs.Candidates.{candidates}
use Rattle.applications.specs.Applications.{freezing, applications_to, applications}
use Rattle.application_laws.specs.Conditions.{TakesAtoms, MayBeUsed, HasItsSupport, inside, MentionInside, goals_inside, BeginsInside}

-- Whatever a rule offers for one of some shaped goals, with fresh numbers above theirs, may be used.
abbrev pub CandidatesMayBeUsed : Type 0
CandidatesMayBeUsed =
    (sig : LfSignature) → ShapedSignature sig → (goals : List LfGoal) → ShapedGoals sig goals → (n : ℕ) → All (λ h. h.id < n) goals → (g : LfGoal) → Contains goals g →
    (rule : ℕ) (method : Method) → TakesAtoms sig method → All (MayBeUsed sig goals n g) (candidates sig rule method g n)

-- Every application of a rule to one of some shaped goals has its support.
abbrev pub ApplicationsHaveTheirSupport : Type 0
ApplicationsHaveTheirSupport =
    (sig : LfSignature) → ShapedSignature sig → (goals : List LfGoal) → ShapedGoals sig goals → (n : ℕ) → All (λ h. h.id < n) goals → (g : LfGoal) → Contains goals g →
    (rule : ℕ) (method : Method) → TakesAtoms sig method → All (HasItsSupport goals n g) (applications_to sig rule method n goals g)

-- The goals inside are shaped by themselves, where they mention none outside.
abbrev pub GoalsInsideAreShaped : Type 0
GoalsInsideAreShaped = (sig : LfSignature) (goals : List LfGoal) (within : ℕ → Bool) → ShapedGoals sig goals → MentionInside within goals → ShapedGoals sig (inside within goals)

-- Then what a rule offers for a goal inside is unified among these alone as among all.
abbrev pub CandidatesAreUnifiedInside : Type 0
CandidatesAreUnifiedInside =
    (sig : LfSignature) → ShapedSignature sig → (goals : List LfGoal) → ShapedGoals sig goals → (n : ℕ) → All (λ h. h.id < n) goals → (within : ℕ → Bool) → MentionInside within goals →
    (g : LfGoal) → Contains goals g → within g.id ≡ true → (rule : ℕ) (method : Method) → TakesAtoms sig method →
    All (λ c. unifier_of sig (inside within goals ++ c.opened.fresh) g.context (freezing c.outcome (inside within goals) g) c.equations
    ≡ unifier_of sig (goals ++ c.opened.fresh) g.context (freezing c.outcome goals g) c.equations) (candidates sig rule method g n)

-- And the applications to a goal inside are among these alone what they are among all.
abbrev pub ApplicationsStayInside : Type 0
ApplicationsStayInside =
    (sig : LfSignature) → ShapedSignature sig → (goals : List LfGoal) → ShapedGoals sig goals → (n : ℕ) → All (λ h. h.id < n) goals → (within : ℕ → Bool) → MentionInside within goals →
    (g : LfGoal) → Contains goals g → within g.id ≡ true → (rule : ℕ) (method : Method) → TakesAtoms sig method →
    applications_to sig rule method n (inside within goals) g ≡ applications_to sig rule method n goals g

-- What the first goal doesn't reach takes no part: where a list begins inside, the goals inside have the same first goal by themselves, and a rule has the same applications
-- there, with the same first fresh number. So it has in every other list that begins inside and has the same goals inside, in the same order.
abbrev pub ApplicationsAreFramed : Type 0
ApplicationsAreFramed =
    (sig : LfSignature) → ShapedSignature sig → (n : ℕ) (within : ℕ → Bool) (list : LfGoals) → BeginsInside sig n within list → (rule : ℕ) (method : Method) → TakesAtoms sig method →
    (first_goal (goals_inside within list) ≡ first_goal list)
    × (applications sig rule method n (goals_inside within list) ≡ applications sig rule method n list)
    × ((other : LfGoals) → BeginsInside sig n within other → inside within (all_goals other) ≡ inside within (all_goals list) → applications sig rule method n other ≡ applications sig rule method n list)
