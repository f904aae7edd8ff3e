-- What is known of an application to the first goal of a list.
use Rattle.std.specs.Prelude.{◌≡◌, ◌≢◌, ◌⊎◌, ℕ, ◌<◌, ◌≤◌, List, [], false, Some, All, Contains}
use Rattle.lf_definitions.specs.Syntax.{LfTerm}
use Rattle.lf_definitions.specs.Typing.{LfGoal}
use Rattle.lf_definitions.specs.Signatures.{LfSignature}
use Rattle.lf_definitions.specs.GoalLists.{LfGoals, all_goals, ids, first_goal, next_id}
use Rattle.lf_definitions.specs.Instantiation.{assignment_of}
use Rattle.applications.specs.Applications.{LfApplication}
use Rattle.application_laws.specs.Conditions.{new_goals}
use Rattle.alternatives.specs.ListsAfter.{list_after, fresh_after}
use Rattle.alternatives.specs.Taking.{MayBeTaken, Takes}

-- Each goal of a list is one of an older list, by its number, or its number is at least `n`.
abbrev pub AreOldOrNew : LfGoals → ℕ → LfGoals → Type 0
AreOldOrNew before n after = All (λ h. Contains (ids (all_goals before)) h.id ⊎ (n ≤ h.id)) (all_goals after)

pub record IsStep (sig : LfSignature) (n : ℕ) (list : LfGoals) (a : LfApplication) : Type 0 where
  pub may_be_taken : MayBeTaken sig list a
  pub takes : Takes sig list (list_after list a) a.assigned
  -- The numbers after it are below the first that is fresh after it, which is the next one where there is a new goal.
  pub below : All (λ h. h.id < fresh_after n a) (all_goals (list_after list a))
  pub next : new_goals a ≢ [] → next_id (list_after list a) ≡ fresh_after n a
  pub old_or_new : AreOldOrNew list n (list_after list a)
  -- The first goal is assigned, and where no other is said to be, it alone is.
  pub assigns_first : (g : LfGoal) → first_goal list ≡ Some g → (u : LfTerm) × (assignment_of a.assigned g.id ≡ Some u)
  pub assigns_no_other : a.assigns_others ≡ false → (g : LfGoal) → first_goal list ≡ Some g → All (λ e. e.assigned_goal ≡ g.id) a.assigned
