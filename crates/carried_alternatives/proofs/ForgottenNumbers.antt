-- Alternatives do not depend on numbers of goals.
use Rattle.std.proofs.Common.{◌≡◌, ℕ, List, [], ◌∷◌, map, refl, ap, ap₂, ◌∙◌}
use mathlib.Core.Path.{fun_ext}
use Rattle.lf_definitions.specs.Typing.{LfGoal}
use Rattle.lf_definitions.specs.GoalLists.{LfGoals, all_goals, ids}
use Rattle.lf_definitions.specs.Instantiation.{rename_goal, IsInjective}
use Rattle.head_laws.specs.Renumbering.{place_of_number, up_to}
use Rattle.head_laws.proofs.Numbers.{place_of_number-map}
use Rattle.head_laws.proofs.GoalNumbers.{rename_goal-rename_goal, ids-rename_goal}
use Rattle.goal_lists.specs.Numbering.{renumbered}
use Rattle.applications.specs.Methods.{LfLabel}
use Rattle.applications.specs.Laws.{rename_goals}
use Rattle.alternatives.specs.Alternatives.{LfLast, LfAlternative, alternatives}
use Rattle.renamed_alternatives.specs.Laws.{rename_alternative}
use Rattle.renamed_alternatives.proofs.ListsAfter.{all_goals-renamed}
use Rattle.carried_alternatives.specs.Laws.{LfPlaced, placed, AlternativesForgetNumbers}
use Rattle.carried_alternatives.proofs.NumberedBack.{goals_by, goes_back, alternatives_come_back}

abbrev placed_by : List LfLabel → LfLast → ℕ → LfGoals → LfPlaced
placed_by norm last percent goals = record { norm = norm; last = last; percent = percent; goals = goals }

module _ (ρ : ℕ → ℕ) (injective : IsInjective ρ) where
  -- Under other numbers all goals have the same places.
  same_places : (ns : List ℕ) (goals : List LfGoal) → map (rename_goal (place_of_number (map ρ ns))) (map (rename_goal ρ) goals) ≡ map (rename_goal (place_of_number ns)) goals
  same_places ns [] = refl
  same_places ns (g ∷ rest) =
      ap₂ (λ x xs. x ∷ xs)
      (rename_goal-rename_goal (place_of_number (map ρ ns)) ρ g ∙ ap (λ π. rename_goal π g) (fun_ext (place_of_number-map ρ injective ns)))
      (same_places ns rest)

  pub renumbered-rename_goals : (list : LfGoals) → renumbered (rename_goals ρ list) ≡ renumbered list
  renumbered-rename_goals list =
      let ns = ids (all_goals list) in
      let numbers : ids (all_goals (rename_goals ρ list)) ≡ map ρ ns = ap ids (all_goals-renamed ρ list) ∙ ids-rename_goal ρ (all_goals list) in
      ap (λ ms. goals_by (map (rename_goal (place_of_number ms)) (map (rename_goal ρ) list.proofs)) (map (rename_goal (place_of_number ms)) (map (rename_goal ρ) list.witnesses))) numbers
      ∙ ap₂ goals_by (same_places ns list.proofs) (same_places ns list.witnesses)

  pub placed-renamed : (found : List LfAlternative) → map placed (map (rename_alternative ρ) found) ≡ map placed found
  placed-renamed [] = refl
  placed-renamed (alternative ∷ rest) =
      ap₂ (λ goals more. placed_by alternative.norm alternative.last alternative.percent goals ∷ more) (renumbered-rename_goals alternative.goals) (placed-renamed rest)

pub alternatives_forget_numbers : AlternativesForgetNumbers
alternatives_forget_numbers sig rules n list shaped_signature shaped below =
    ap (map placed) (alternatives_come_back sig rules n list shaped_signature shaped below)
    ∙ placed-renamed (up_to (ids (all_goals list)) n) (goes_back sig n list shaped below).injective (alternatives sig rules _ (renumbered list))
