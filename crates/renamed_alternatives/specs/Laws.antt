-- Lists after applications, normal forms and alternatives go along with renamings of metavariables.
use Rattle.std.specs.Prelude.{◌≡◌, ℕ, ◌≤◌, List, ◌++◌, map, All}
use Rattle.lf_definitions.specs.ShapedGoals.{ShapedSignature}
use Rattle.lf_definitions.specs.Signatures.{LfSignature}
use Rattle.lf_definitions.specs.GoalLists.{LfGoals}
use Rattle.lf_definitions.specs.Instantiation.{IsInjective}
use Rattle.renamed_unification.specs.Laws.{rename_entry}
use Rattle.applications.specs.Applications.{LfApplication}
use Rattle.applications.specs.Laws.{TakesNumbersFrom, rename_application, rename_goals}
use Rattle.alternatives.specs.Rules.{LfRule, found_by}
use Rattle.alternatives.specs.ListsAfter.{list_after}
use Rattle.alternatives.specs.NormalForms.{LfNormal, normal_form}
use Rattle.alternatives.specs.Alternatives.{LfAlternative, alternatives}

-- New goals have fresh numbers, on all data.
abbrev pub NewNumbersAreFresh : Type 0
NewNumbersAreFresh =
    (sig : LfSignature) (n : ℕ) (list : LfGoals) (rule : LfRule) → All (λ (a : LfApplication). All (λ h. n ≤ h.id) (a.proofs ++ a.witnesses)) (found_by sig n list rule)

abbrev pub ListsAfterAreRenamed : Type 0
ListsAfterAreRenamed =
    (ρ : ℕ → ℕ) → IsInjective ρ → (list : LfGoals) (a : LfApplication) → list_after (rename_goals ρ list) (rename_application ρ a) ≡ rename_goals ρ (list_after list a)

-- A normal form is another one renamed, with first fresh numbers that the renaming takes to each other.
pub record IsRenamedNormal (ρ : ℕ → ℕ) (normal other : LfNormal) : Type 0 where
  pub labels : other.labels ≡ normal.labels
  pub closed : other.closed ≡ normal.closed
  pub goals : other.goals ≡ rename_goals ρ normal.goals
  pub build : other.build ≡ map (rename_entry ρ) normal.build
  pub fresh : TakesNumbersFrom ρ normal.fresh other.fresh

abbrev pub NormalFormsAreRenamed : Type 0
NormalFormsAreRenamed =
    (sig : LfSignature) → ShapedSignature sig → (rules : List LfRule) (ρ : ℕ → ℕ) → IsInjective ρ → (n m : ℕ) → TakesNumbersFrom ρ n m → (list : LfGoals) →
    IsRenamedNormal ρ (normal_form sig rules n list) (normal_form sig rules m (rename_goals ρ list))

-- Labels and percentages speak of no metavariable.
abbrev pub rename_alternative : (ℕ → ℕ) → LfAlternative → LfAlternative
rename_alternative ρ alternative = record {
  norm = alternative.norm;
  last = alternative.last;
  percent = alternative.percent;
  goals = rename_goals ρ alternative.goals;
  build = map (rename_entry ρ) alternative.build;
}

abbrev pub AlternativesAreRenamed : Type 0
AlternativesAreRenamed =
    (sig : LfSignature) → ShapedSignature sig → (rules : List LfRule) (ρ : ℕ → ℕ) → IsInjective ρ → (n m : ℕ) → TakesNumbersFrom ρ n m → (list : LfGoals) →
    alternatives sig rules m (rename_goals ρ list) ≡ map (rename_alternative ρ) (alternatives sig rules n list)
