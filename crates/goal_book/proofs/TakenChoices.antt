-- Choices, taken after a normal form, are its alternatives where no safe rule was committed.
use Rattle.std.proofs.Common.{◌≡◌, List, [], ◌∷◌, ◌++◌, map, filter, None, refl, sym, ap, ap₂, ◌∙◌}
use Rattle.std.specs.Prelude.{flat_map}
use Rattle.std.proofs.lemmas.List.{map-append}
use Rattle.lf_definitions.specs.Signatures.{LfSignature}
use Rattle.lf_definitions.specs.GoalLists.{LfGoals}
use Rattle.applications.specs.Applications.{LfApplication}
use Rattle.alternatives.specs.Rules.{LfPhase, LfRule, found_by}
use Rattle.alternatives.specs.NormalForms.{LfNormal}
use Rattle.alternatives.specs.Alternatives.{LfAlternative, taken, percent_of, chosen_as, ranked, choices_of, committed_or_chosen}
use Rattle.goal_book.specs.Choices.{LfChoice, choice_of, choices_by, may_be_chosen, choices}

module _ (sig : LfSignature) (list : LfGoals) (normal : LfNormal) where
  abbrev pub taken_choice : LfChoice → LfAlternative
  taken_choice c = taken list normal c.last c.percent c.application

  each_taken : (phase : LfPhase) (apps : List LfApplication) → map (λ a. taken list normal (chosen_as phase a.label) (percent_of phase) a) apps ≡ map taken_choice (map (choice_of phase) apps)
  each_taken phase [] = refl
  each_taken phase (a ∷ rest) = ap (λ xs. taken list normal (chosen_as phase a.label) (percent_of phase) a ∷ xs) (each_taken phase rest)

  all_taken : (rs : List LfRule) → flat_map (choices_of sig list normal) rs ≡ map taken_choice (flat_map (choices_by sig normal.fresh normal.goals) rs)
  all_taken [] = refl
  all_taken (r ∷ rest) =
      ap₂ (λ xs ys. xs ++ ys) (each_taken r.phase (found_by sig normal.fresh normal.goals r)) (all_taken rest)
      ∙ sym (map-append taken_choice (choices_by sig normal.fresh normal.goals r) (flat_map (choices_by sig normal.fresh normal.goals) rest))

  pub choices_are_taken : (rules : List LfRule) → committed_or_chosen sig rules list normal None ≡ map taken_choice (choices sig rules normal.fresh normal.goals)
  choices_are_taken rules = all_taken (ranked (filter may_be_chosen rules))
