-- What the first goal of a list doesn't reach by mention takes no part in its normal form and its alternatives, and stays as it is.
use Rattle.std.specs.Prelude.{◌≡◌, ℕ, Bool, true, ◌||◌, leb, List, map, Some, All}
use Rattle.lf_definitions.specs.Typing.{LfGoal}
use Rattle.lf_definitions.specs.Signatures.{LfSignature}
use Rattle.lf_definitions.specs.GoalLists.{LfGoals, all_goals, first_goal}
use Rattle.applications.specs.Applications.{LfApplication}
use Rattle.application_laws.specs.Conditions.{goals_inside}
use Rattle.alternatives.specs.Rules.{LfRule, found_by}
use Rattle.alternatives.specs.ListsAfter.{list_after}
use Rattle.alternatives.specs.NormalForms.{LfNormal, normal_form}
use Rattle.alternatives.specs.Alternatives.{LfAlternative, alternatives}
use Rattle.clusters.specs.Links.{outside_of, Splits}
use Rattle.alternatives.specs.Reaching.{MayBeExpanded}

-- the numbers inside, and all from `n` on
abbrev pub with_fresh : (ℕ → Bool) → ℕ → ℕ → Bool
with_fresh within n m = within m || leb n m

-- A list may be expanded, no mention crosses the border of what is inside, and the first goal is inside.
pub record BeginsApart (sig : LfSignature) (rules : List LfRule) (n : ℕ) (within : ℕ → Bool) (list : LfGoals) : Type 0 where
  pub may_be_expanded : MayBeExpanded sig rules n list
  pub splits : Splits within (all_goals list)
  pub first_is_inside : (g : LfGoal) × (first_goal list ≡ Some g) × (within g.id ≡ true)

-- Of the list after: no mention crosses the border with fresh numbers inside, and the goals outside are as they were.
pub record StaysApart (n : ℕ) (within : ℕ → Bool) (before after : LfGoals) : Type 0 where
  pub splits : Splits (with_fresh within n) (all_goals after)
  pub outside : goals_inside (outside_of (with_fresh within n)) after ≡ goals_inside (outside_of within) before

-- The list after an application stays apart, and its goals inside are those after the same application to the goals inside alone.
abbrev pub ListsAfterAreFramed : Type 0
ListsAfterAreFramed =
    (sig : LfSignature) (rules : List LfRule) (n : ℕ) (within : ℕ → Bool) (list : LfGoals) → BeginsApart sig rules n within list →
    All (λ rule. All (λ (a : LfApplication). StaysApart n within list (list_after list a) × (goals_inside (with_fresh within n) (list_after list a) ≡ list_after (goals_inside within list) a))
    (found_by sig n list rule)) rules

abbrev pub inside_normal : (ℕ → Bool) → LfNormal → LfNormal
inside_normal within normal = record { labels = normal.labels; closed = normal.closed; goals = goals_inside within normal.goals; build = normal.build; fresh = normal.fresh }

-- So it is with the normal form.
abbrev pub NormalFormsAreFramed : Type 0
NormalFormsAreFramed =
    (sig : LfSignature) (rules : List LfRule) (n : ℕ) (within : ℕ → Bool) (list : LfGoals) → BeginsApart sig rules n within list →
    (normal_form sig rules n (goals_inside within list) ≡ inside_normal (with_fresh within n) (normal_form sig rules n list))
    × StaysApart n within list (normal_form sig rules n list).goals

abbrev pub inside_alternative : (ℕ → Bool) → LfAlternative → LfAlternative
inside_alternative within alternative = record {
  norm = alternative.norm;
  last = alternative.last;
  percent = alternative.percent;
  goals = goals_inside within alternative.goals;
  build = alternative.build;
}

-- And with the alternatives.
abbrev pub AlternativesAreFramed : Type 0
AlternativesAreFramed =
    (sig : LfSignature) (rules : List LfRule) (n : ℕ) (within : ℕ → Bool) (list : LfGoals) → BeginsApart sig rules n within list →
    (alternatives sig rules n (goals_inside within list) ≡ map (inside_alternative (with_fresh within n)) (alternatives sig rules n list))
    × All (λ (alternative : LfAlternative). StaysApart n within list alternative.goals) (alternatives sig rules n list)
