-- The law of one assignment after another.
use Rattle.std.specs.Prelude.{◌≡◌, ℕ, List, [], All, Contains}
use Rattle.lf_definitions.specs.Syntax.{LfTerm, SimpleType, Context}
use Rattle.lf_definitions.specs.Shaping.{Shaped}
use Rattle.lf_definitions.specs.ShapedGoals.{scope_in, ShapedGoals}
use Rattle.lf_definitions.specs.Typing.{LfGoal}
use Rattle.lf_definitions.specs.Signatures.{LfSignature}
use Rattle.lf_definitions.specs.GoalLists.{LfGoals, all_goals, ids}
use Rattle.lf_definitions.specs.Instantiation.{LfAssigned, assignment_of}
use Rattle.lf_functions.specs.Instances.{instance_of}
use Rattle.alternatives.specs.ListsAfter.{then_assigned}
use Rattle.alternatives.specs.Taking.{Takes}

-- No number comes back: a goal of the last list that is one of the first is one of those between.
abbrev pub NoneComesBack : LfGoals → LfGoals → LfGoals → Type 0
NoneComesBack before between after = (m : ℕ) → Contains (ids (all_goals before)) m → Contains (ids (all_goals after)) m → Contains (ids (all_goals between)) m

-- Assignments from shaped goals to others, and from these on, are one assignment, where no number comes back; the instances by it are the instances of instances.
abbrev pub AssignmentsFollow : Type 0
AssignmentsFollow =
    (sig : LfSignature) (before between after : LfGoals) (earlier later : List LfAssigned) → ShapedGoals sig (all_goals before) →
    Takes sig before between earlier → Takes sig between after later → NoneComesBack before between after →
    Takes sig before after (then_assigned (ids (all_goals before)) (all_goals between) earlier later)
    × ((ctx : Context) (t : LfTerm) (s : SimpleType) → Shaped (scope_in sig (all_goals before) ctx) t s →
    instance_of (all_goals before) (assignment_of (then_assigned (ids (all_goals before)) (all_goals between) earlier later)) t
    ≡ instance_of (all_goals between) (assignment_of later) (instance_of (all_goals before) (assignment_of earlier) t))

-- Nothing is assigned, and the list stays.
abbrev pub NothingIsTaken : Type 0
NothingIsTaken = (sig : LfSignature) (list : LfGoals) → ShapedGoals sig (all_goals list) → Takes sig list list []

-- Three assignments, one after the other, are the same in either way of putting them together.
abbrev pub FollowingIsAssociative : Type 0
FollowingIsAssociative =
    (sig : LfSignature) (first second third last : LfGoals) (a b c : List LfAssigned) → ShapedGoals sig (all_goals first) →
    Takes sig first second a → Takes sig second third b → Takes sig third last c → NoneComesBack first second third →
    then_assigned (ids (all_goals first)) (all_goals second) a (then_assigned (ids (all_goals second)) (all_goals third) b c)
    ≡ then_assigned (ids (all_goals first)) (all_goals third) (then_assigned (ids (all_goals first)) (all_goals second) a b) c

-- Nothing after an assignment changes nothing, and neither does nothing before one whose entries are all of the goals.
abbrev pub NothingFollows : Type 0
NothingFollows =
    ((numbers : List ℕ) (between : List LfGoal) (earlier : List LfAssigned) → then_assigned numbers between earlier [] ≡ earlier)
    × ((numbers : List ℕ) (between : List LfGoal) (later : List LfAssigned) → All (λ e. Contains numbers e.assigned_goal) later → then_assigned numbers between [] later ≡ later)
