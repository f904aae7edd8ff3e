-- Steps keep what is well formed, and what they assign is typed.
use Rattle.std.specs.Prelude.{ℕ, ◌<◌, List, All}
use Rattle.lf_definitions.specs.Signatures.{LfSignature, FormedSignature}
use Rattle.lf_definitions.specs.GoalLists.{LfGoals, all_goals, FormedGoals}
use Rattle.lf_definitions.specs.Instantiation.{LfAssigned, assignment_of}
use Rattle.typing_laws.specs.InstantiationLaws.{TakesGoals}
use Rattle.applications.specs.Applications.{LfApplication}
use Rattle.application_laws.specs.Conditions.{TakesAtoms}
use Rattle.alternatives.specs.Rules.{LfRule, found_by}
use Rattle.alternatives.specs.ListsAfter.{list_after}
use Rattle.alternatives.specs.NormalForms.{normal_within, normal_form}
use Rattle.alternatives.specs.Alternatives.{LfAlternative, alternatives}

-- The list after is well formed, and what is assigned to a goal has the goal's type there, under the assignment.
pub record KeepsTypes (sig : LfSignature) (before after : LfGoals) (build : List LfAssigned) : Type 0 where
  pub formed : FormedGoals sig (all_goals after)
  pub takes_goals : TakesGoals sig (all_goals before) (all_goals after) (assignment_of build)

-- Over a well-formed signature, goals are well formed, with numbers below `n`, and no rule takes a hypothesis for an argument that has binders.
pub record MayBeTyped (sig : LfSignature) (rules : List LfRule) (n : ℕ) (list : LfGoals) : Type 0 where
  pub signature : FormedSignature sig
  pub goals : FormedGoals sig (all_goals list)
  pub below : All (λ h. h.id < n) (all_goals list)
  pub rules_take_atoms : All (λ rule. TakesAtoms sig rule.method) rules

-- Each application to the first goal keeps types.
abbrev pub ApplicationsKeepTypes : Type 0
ApplicationsKeepTypes =
    (sig : LfSignature) (rules : List LfRule) (n : ℕ) (list : LfGoals) → MayBeTyped sig rules n list →
    All (λ rule. All (λ (a : LfApplication). KeepsTypes sig list (list_after list a) a.assigned) (found_by sig n list rule)) rules

-- So does normalisation.
abbrev pub NormalFormsKeepTypes : Type 0
NormalFormsKeepTypes =
    (sig : LfSignature) (rules : List LfRule) (n : ℕ) (list : LfGoals) → MayBeTyped sig rules n list →
    ((most : ℕ) → KeepsTypes sig list (normal_within most sig rules n list).goals (normal_within most sig rules n list).build)
    × KeepsTypes sig list (normal_form sig rules n list).goals (normal_form sig rules n list).build

-- And so does each alternative.
abbrev pub AlternativesKeepTypes : Type 0
AlternativesKeepTypes =
    (sig : LfSignature) (rules : List LfRule) (n : ℕ) (list : LfGoals) → MayBeTyped sig rules n list →
    All (λ (alternative : LfAlternative). KeepsTypes sig list alternative.goals alternative.build) (alternatives sig rules n list)
