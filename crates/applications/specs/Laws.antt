-- The laws of applications: an opening is a function, and all goes along with renamings of metavariables.
use Rattle.std.specs.Prelude.{◌≡◌, ◌≢◌, ℕ, ◌+◌, List, map, All, AllPairs}
use Rattle.lf_definitions.specs.Syntax.{LfType, Context}
use Rattle.lf_definitions.specs.Renaming.{rename_type, rename_context}
use Rattle.lf_definitions.specs.ShapedGoals.{ShapedSignature}
use Rattle.lf_definitions.specs.Typing.{LfGoal}
use Rattle.lf_definitions.specs.Signatures.{LfSignature}
use Rattle.lf_definitions.specs.GoalLists.{LfGoals}
use Rattle.lf_definitions.specs.Instantiation.{metavariables, rename_goal, IsInjective}
use Rattle.renamed_unification.specs.Laws.{rename_entry}
use Rattle.lf_functions.specs.Laws.{IsTheOne}
use Rattle.lf_functions.specs.EndingLaws.{rename_equations}
use Rattle.opening_laws.specs.Openings.{IsOpened, rename_opened}
use Rattle.opening_laws.specs.Conditions.{MayBeOpened}
use Rattle.applications.specs.OpenedTypes.{opening_of}
use Rattle.applications.specs.Methods.{Method, LfLabel, LfCandidate}
use Rattle.applications.specs.Candidates.{candidates}
use Rattle.applications.specs.Applications.{LfApplication, applications_to, applications}

-- Where a type may be opened, `opening_of` is the one way.
abbrev pub OpeningsAreFunctions : Type 0
OpeningsAreFunctions =
    (sig : LfSignature) (goals : List LfGoal) (ctx : Context) (kept : List ℕ) (fixed : List (ℕ × ℕ)) (first : ℕ) (type : LfType) → MayBeOpened sig goals ctx kept fixed first type →
    IsTheOne (IsOpened ctx kept fixed first type) (opening_of ctx kept fixed first type)

-- A renaming takes the numbers from one on to those from another on.
abbrev pub TakesNumbersFrom : (ℕ → ℕ) → ℕ → ℕ → Type 0
TakesNumbersFrom ρ first other = (k : ℕ) → ρ (first + k) ≡ other + k

-- On all data, an opening goes along with a renaming of metavariables that takes fresh numbers to fresh numbers.
abbrev pub OpeningFunctionsAreRenamed : Type 0
OpeningFunctionsAreRenamed =
    (ρ : ℕ → ℕ) (first other : ℕ) → TakesNumbersFrom ρ first other → (ctx : Context) (kept : List ℕ) (fixed : List (ℕ × ℕ)) (type : LfType) →
    opening_of (rename_context (metavariables ρ) ctx) kept fixed other (rename_type (metavariables ρ) type) ≡ rename_opened ρ (opening_of ctx kept fixed first type)

-- Labels, marks and the places that are kept speak of no metavariable.
abbrev pub rename_candidate : (ℕ → ℕ) → LfCandidate → LfCandidate
rename_candidate ρ c = record {
  label = c.label;
  head = metavariables ρ c.head;
  opened = rename_opened ρ c.opened;
  are_proofs = c.are_proofs;
  equations = rename_equations ρ c.equations;
  outcome = c.outcome;
}

-- So it is with what a rule offers, over a shaped signature, whose constants mention no metavariable.
abbrev pub CandidatesAreRenamed : Type 0
CandidatesAreRenamed =
    (sig : LfSignature) → ShapedSignature sig → (ρ : ℕ → ℕ) (n m : ℕ) → TakesNumbersFrom ρ n m → (rule : ℕ) (method : Method) (g : LfGoal) →
    candidates sig rule method (rename_goal ρ g) m ≡ map (rename_candidate ρ) (candidates sig rule method g n)

-- the same of an application, and of a list of goals
abbrev pub rename_application : (ℕ → ℕ) → LfApplication → LfApplication
rename_application ρ a = record {
  label = a.label;
  assigned = map (rename_entry ρ) a.assigned;
  proofs = map (rename_goal ρ) a.proofs;
  witnesses = map (rename_goal ρ) a.witnesses;
  assigns_others = a.assigns_others;
}

abbrev pub rename_goals : (ℕ → ℕ) → LfGoals → LfGoals
rename_goals ρ list = record { proofs = map (rename_goal ρ) list.proofs; witnesses = map (rename_goal ρ) list.witnesses }

-- And with applications, where different metavariables stay different.
abbrev pub ApplicationsAreRenamed : Type 0
ApplicationsAreRenamed =
    (sig : LfSignature) → ShapedSignature sig → (ρ : ℕ → ℕ) → IsInjective ρ → (n m : ℕ) → TakesNumbersFrom ρ n m → (rule : ℕ) (method : Method) →
    ((goals : List LfGoal) (g : LfGoal) → applications_to sig rule method m (map (rename_goal ρ) goals) (rename_goal ρ g) ≡ map (rename_application ρ) (applications_to sig rule method n goals g))
    × ((list : LfGoals) → applications sig rule method m (rename_goals ρ list) ≡ map (rename_application ρ) (applications sig rule method n list))

-- Labels differ where their choices do, or their hypotheses.
abbrev pub IsAnotherLabel : LfLabel → LfLabel → Type 0
IsAnotherLabel l k = l.choice ≡ k.choice → l.hypotheses ≢ k.hypotheses

-- the labels of applications, in their order
abbrev pub labels_of : List LfApplication → List LfLabel
labels_of found = map (λ a. a.label) found

-- All applications of a rule to a goal have its number, and no two of them have the same choice and hypotheses.
abbrev pub LabelsDiffer : Type 0
LabelsDiffer =
    (sig : LfSignature) (rule : ℕ) (method : Method) (n : ℕ) (goals : List LfGoal) (g : LfGoal) →
    All (λ l. l.of_rule ≡ rule) (labels_of (applications_to sig rule method n goals g))
    × AllPairs IsAnotherLabel (labels_of (applications_to sig rule method n goals g))
