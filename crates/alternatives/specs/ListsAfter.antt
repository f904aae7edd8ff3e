-- The list of goals after an application, and one assignment after another.
use Rattle.std.specs.Prelude.{ℕ, List, ◌++◌, map, max}
use Rattle.lf_definitions.specs.Typing.{LfGoal}
use Rattle.lf_definitions.specs.GoalLists.{LfGoals, all_goals, ids, above}
use Rattle.lf_definitions.specs.Instantiation.{Assignment, LfAssigned, assignment_of}
use Rattle.lf_functions.specs.Instances.{instance_of}
use Rattle.applications.specs.Applications.{LfApplication, goals_left, entries_among}

-- New proofs come before all old proofs, and new witnesses after all old witnesses.
abbrev pub with_new : LfGoals → LfApplication → LfGoals
with_new list a = record { proofs = a.proofs ++ list.proofs; witnesses = list.witnesses ++ a.witnesses }

-- what an assignment leaves of both parts of a list
abbrev pub left_in : LfGoals → Assignment → LfGoals
left_in list σ = record { proofs = goals_left (all_goals list) σ list.proofs; witnesses = goals_left (all_goals list) σ list.witnesses }

-- The list after an application: with its new goals, without those that it assigns, and all under its assignment.
unfoldable pub list_after : LfGoals → LfApplication → LfGoals
list_after list a = left_in (with_new list a) (assignment_of a.assigned)

-- the first number that is fresh after an application whose fresh numbers began with `n`
abbrev pub fresh_after : ℕ → LfApplication → ℕ
fresh_after n a = max n (above (ids (a.proofs ++ a.witnesses)))

-- the body of an entry, which stands among these goals, under later entries
abbrev pub under_later : List LfGoal → List LfAssigned → LfAssigned → LfAssigned
under_later between later e = record { assigned_goal = e.assigned_goal; binders_count = e.binders_count; body = instance_of between (assignment_of later) e.body }

-- Entries and then later ones, for the goals of these numbers: the later ones are put into the bodies of the earlier ones, which stand among the goals between, and those of
-- them whose goals have one of the numbers follow.
abbrev pub then_assigned : List ℕ → List LfGoal → List LfAssigned → List LfAssigned → List LfAssigned
then_assigned numbers between earlier later = map (under_later between later) earlier ++ entries_among numbers later
