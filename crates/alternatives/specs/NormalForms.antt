-- The normal form of a list of goals.
use Rattle.std.specs.Prelude.{ℕ, zero, suc, Bool, true, false, not, ◌&&◌, List, [], ◌∷◌, Option, Some, None, if◌then◌else◌, filter, find, flat_map}
use Rattle.lf_definitions.specs.Typing.{LfGoal}
use Rattle.lf_definitions.specs.Signatures.{LfSignature}
use Rattle.lf_definitions.specs.GoalLists.{LfGoals, all_goals, ids}
use Rattle.lf_definitions.specs.Instantiation.{LfAssigned}
use Rattle.applications.specs.Methods.{LfLabel}
use Rattle.applications.specs.Applications.{LfApplication}
use Rattle.alternatives.specs.Rules.{LfRule, is_normalising, found_by}
use Rattle.alternatives.specs.ListsAfter.{list_after, fresh_after, then_assigned}

abbrev pub has_none : List LfGoal → Bool
has_none [] = true
has_none (g ∷ rest) = false

abbrev pub has_one_at_most : List LfGoal → Bool
has_one_at_most [] = true
has_one_at_most (g ∷ rest) = has_none rest

-- An application is lawful in normalisation where it assigns no other goal and leaves no witness and at most one proof goal.
abbrev pub is_lawful : LfApplication → Bool
is_lawful a = not a.assigns_others && (has_none a.witnesses && has_one_at_most a.proofs)

-- the first lawful application of the first normalising rule that has one
abbrev pub first_lawful : LfSignature → List LfRule → ℕ → LfGoals → Option LfApplication
first_lawful sig rules n list = find is_lawful (flat_map (found_by sig n list) (filter (λ rule. is_normalising rule.phase) rules))

-- The labels of the steps that were made, whether the last of them closed the goal, the list that they leave, their whole assignment to goals of the list before, and the
-- first number that is fresh then.
pub record LfNormal : Type 0 where
  pub labels : List LfLabel
  pub closed : Bool
  pub goals : LfGoals
  pub build : List LfAssigned
  pub fresh : ℕ

-- the list as it is
abbrev pub stopped : Bool → ℕ → LfGoals → LfNormal
stopped closed n list = record { labels = []; closed = closed; goals = list; build = []; fresh = n }

-- a step, and then the normal form of the list after it
abbrev pub after_step : LfGoals → LfApplication → LfNormal → LfNormal
after_step list a rest = record {
  labels = a.label ∷ rest.labels;
  closed = rest.closed;
  goals = rest.goals;
  build = then_assigned (ids (all_goals list)) (all_goals (list_after list a)) a.assigned rest.build;
  fresh = rest.fresh;
}

-- Where a step leaves no new goal, it has closed the goal.
abbrev pub step_or_stop : ℕ → LfGoals → (ℕ → LfGoals → LfNormal) → Option LfApplication → LfNormal
step_or_stop n list onward None = stopped false n list
step_or_stop n list onward (Some a) =
    after_step list a (if has_none a.proofs then stopped true (fresh_after n a) (list_after list a) else onward (fresh_after n a) (list_after list a))

-- Lawful applications of normalising rules, the first each time, until none is left, the goal is closed, or `most` were made, with fresh numbers from `n` on.
abbrev pub normal_within : ℕ → LfSignature → List LfRule → ℕ → LfGoals → LfNormal
normal_within zero sig rules n list = stopped false n list
normal_within (suc most) sig rules n list = step_or_stop n list (normal_within most sig rules) (first_lawful sig rules n list)

-- how many applications normalisation makes at most
abbrev pub most_normalising : ℕ
most_normalising = 100

-- The normal form of a list of goals whose numbers are below `n`.
unfoldable pub normal_form : LfSignature → List LfRule → ℕ → LfGoals → LfNormal
normal_form sig rules n list = normal_within most_normalising sig rules n list
