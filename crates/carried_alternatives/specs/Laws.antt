-- The alternatives of a list are those of the goals that its first goal reaches, numbered by their places, carried along with the rest.
use Rattle.std.specs.Prelude.{◌≡◌, ℕ, ◌<◌, Bool, List, map, All}
use Rattle.lf_definitions.specs.ShapedGoals.{ShapedSignature, ShapedGoals}
use Rattle.lf_definitions.specs.Signatures.{LfSignature}
use Rattle.lf_definitions.specs.GoalLists.{LfGoals, all_goals, ids, next_id}
use Rattle.lf_definitions.specs.Instantiation.{IsInjective}
use Rattle.head_laws.specs.Renumbering.{up_to}
use Rattle.goal_lists.specs.Numbering.{renumbered}
use Rattle.applications.specs.Methods.{LfLabel}
use Rattle.applications.specs.Laws.{rename_goals}
use Rattle.application_laws.specs.Conditions.{goals_inside}
use Rattle.alternatives.specs.Rules.{LfRule}
use Rattle.alternatives.specs.Alternatives.{LfLast, LfAlternative, alternatives}
use Rattle.renamed_alternatives.specs.Laws.{rename_alternative}
use Rattle.framed_alternatives.specs.Laws.{with_fresh, BeginsApart, StaysApart, inside_alternative}

-- the goals inside, numbered by their places
abbrev pub inside_by_place : (ℕ → Bool) → LfGoals → LfGoals
inside_by_place within list = renumbered (goals_inside within list)

-- from their places to their numbers in the list, and from the numbers that are fresh among them to those that are fresh in the list
abbrev pub back_into : (ℕ → Bool) → LfGoals → ℕ → ℕ
back_into within list = up_to (ids (all_goals (goals_inside within list))) (next_id list)

abbrev pub AlternativesAreCarriedOver : Type 0
AlternativesAreCarriedOver =
    (sig : LfSignature) (rules : List LfRule) (within : ℕ → Bool) (list : LfGoals) → BeginsApart sig rules (next_id list) within list →
    IsInjective (back_into within list)
    × (rename_goals (back_into within list) (inside_by_place within list) ≡ goals_inside within list)
    × (map (inside_alternative (with_fresh within (next_id list))) (alternatives sig rules (next_id list) list)
    ≡ map (rename_alternative (back_into within list)) (alternatives sig rules (next_id (inside_by_place within list)) (inside_by_place within list)))
    × All (λ (alternative : LfAlternative). StaysApart (next_id list) within list alternative.goals) (alternatives sig rules (next_id list) list)

-- An alternative with its goals numbered by their places, and without its assignment, which speaks of the numbers before.
pub record LfPlaced : Type 0 where
  pub norm : List LfLabel
  pub last : LfLast
  pub percent : ℕ
  pub goals : LfGoals

abbrev pub placed : LfAlternative → LfPlaced
placed alternative = record { norm = alternative.norm; last = alternative.last; percent = alternative.percent; goals = renumbered alternative.goals }

-- A shaped list whose numbers are below `n` and the list numbered by its places have the same alternatives, but for numbers of goals.
abbrev pub AlternativesForgetNumbers : Type 0
AlternativesForgetNumbers =
    (sig : LfSignature) (rules : List LfRule) (n : ℕ) (list : LfGoals) → ShapedSignature sig → ShapedGoals sig (all_goals list) → All (λ h. h.id < n) (all_goals list) →
    map placed (alternatives sig rules n list) ≡ map placed (alternatives sig rules (next_id (renumbered list)) (renumbered list))
