-- Applications of a rule, as they are found and as they are added to choices.
use Rattle.std.proofs.Common.{◌≡◌, ℕ, Bool, true, false, cond, List, [], ◌∷◌, ◌++◌, map, Option, Some, refl, sym, ap, ap₂, ◌∙◌, subst, append-nil}
use Rattle.std.specs.Prelude.{All, find, flat_map, option_map, slice_get}
use Rattle.std.specs.List.{cons_option}
use Rattle.std.proofs.lemmas.List.{map-append}
use Rattle.std.proofs.lemmas.List.Elements.{All-append}
use Rattle.lf_definitions.specs.Typing.{LfGoal}
use Rattle.lf_definitions.specs.Signatures.{LfSignature}
use Rattle.lf_definitions.specs.GoalLists.{LfGoals, next_id}
use Rattle.applications.specs.Methods.{LfLabel}
use Rattle.applications.specs.Applications.{LfApplication}
use Rattle.rule_sets.specs.declared.rule.Rule.{Rule}
use Rattle.rule_sets.specs.Books.{Book}
use Rattle.rule_methods.specs.RuleMethods.{applications_of}
use Rattle.meta_goals.specs.Laws.{HaveShapesOf}
use Rattle.build_shared.specs.declared.app.App.{App}
use Rattle.build_shared.specs.Seen.{seen_label, seen_application}
use Rattle.build_shared.specs.RuleUses.{KnowShapes}
use Rattle.alternatives.specs.Rules.{LfPhase, normalising, safe, unsafe, LfRule, found_by}
use Rattle.alternatives.specs.Alternatives.{LfLast, percent_of, chosen_as}
use Rattle.goal_book.specs.declared.choices.Choice.{Choice}
use Rattle.goal_book.specs.declared.wanted.Wanted.{Wanted}
use Rattle.goal_book.specs.Rules.{phase_of, numbered, rules_of}
use Rattle.goal_book.specs.Choices.{LfChoice, is_late, last_by, seen_choice, choice_of, choices_by, as_choice}
use Rattle.goal_book.specs.Queries.{phase_is_tried, serves, app_serves, first_wanted}

-- the rule of one number
one_rule : (book : Book) (number : ℕ) (rule : Rule) → slice_get book.rules number ≡ Some rule → rules_of book (number ∷ []) ≡ numbered book.lists number rule ∷ []
one_rule book number rule is = ap (λ o. cons_option (option_map (numbered book.lists number) o) []) is

-- the first that serves

find-seen : (wanted : Wanted) (apps : List App) → option_map seen_application (find (app_serves wanted) apps) ≡ find (serves wanted) (map seen_application apps)
find-seen wanted [] = refl
find-seen wanted (a ∷ rest) = step (app_serves wanted a) (find-seen wanted rest)
  where
    step : (b : Bool) → option_map seen_application (find (app_serves wanted) rest) ≡ find (serves wanted) (map seen_application rest) →
        option_map seen_application (cond b (Some a) (find (app_serves wanted) rest)) ≡ cond b (Some (seen_application a)) (find (serves wanted) (map seen_application rest))
    step true later = refl
    step false later = later

module _ (sig : LfSignature) (book : Book) (goals : LfGoals) (number : ℕ) (rule : Rule) (rule_is : slice_get book.rules number ≡ Some rule) where
  abbrev finds : LfRule → List LfApplication
  finds r = found_by sig (next_id goals) goals r

  pub first_tried : (wanted : Wanted) → phase_is_tried wanted (phase_of rule.phase) ≡ true → (apps : List App) → map seen_application apps ≡ applications_of sig book.lists number rule goals →
      (found : Option App) → found ≡ find (app_serves wanted) apps → option_map seen_application found ≡ first_wanted finds wanted (rules_of book (number ∷ []))
  first_tried wanted e apps apps_are found found_is =
      ap (option_map seen_application) found_is
      ∙ find-seen wanted apps
      ∙ ap (find (serves wanted)) (apps_are ∙ sym (append-nil (applications_of sig book.lists number rule goals)))
      ∙ sym (ap (first_wanted finds wanted) (one_rule book number rule rule_is)
      ∙ ap (λ b. find (serves wanted) (flat_map finds (cond b (numbered book.lists number rule ∷ []) []))) e)

-- choices

said : (phase : LfPhase) (label : LfLabel) → last_by (is_late phase) label ≡ chosen_as phase label
said normalising label = refl
said safe label = refl
said (unsafe percent) label = refl

seen_as : (phase : LfPhase) (apps : List App) → map seen_choice (map (as_choice (percent_of phase) (is_late phase)) apps) ≡ map (choice_of phase) (map seen_application apps)
seen_as phase [] = refl
seen_as phase (a ∷ rest) =
    ap₂ (λ (l : LfLast) (cs : List LfChoice). record { last = l; percent = percent_of phase; application = seen_application a } ∷ cs) (said phase (seen_label a.label)) (seen_as phase rest)

pub choices_added : (sig : LfSignature) (book : Book) (goals : LfGoals) (number : ℕ) (rule : Rule) → slice_get book.rules number ≡ Some rule →
    (apps : List App) → map seen_application apps ≡ applications_of sig book.lists number rule goals →
    (percent : ℕ) (postponed : Bool) → percent ≡ percent_of (phase_of rule.phase) → postponed ≡ is_late (phase_of rule.phase) →
    (old new : List Choice) → new ≡ old ++ map (as_choice percent postponed) apps →
    map seen_choice new ≡ map seen_choice old ++ flat_map (choices_by sig (next_id goals) goals) (rules_of book (number ∷ []))
choices_added sig book goals number rule rule_is apps apps_are percent postponed percent_is postponed_is old new new_is =
    let phase = phase_of rule.phase in
    let finds : LfRule → List LfChoice = choices_by sig (next_id goals) goals in
    ap (map seen_choice) new_is
    ∙ map-append seen_choice old (map (as_choice percent postponed) apps)
    ∙ ap (λ xs. map seen_choice old ++ xs) (ap₂ (λ p l. map seen_choice (map (as_choice p l) apps)) percent_is postponed_is
    ∙ seen_as phase apps
    ∙ ap (map (choice_of phase)) apps_are
    ∙ sym (append-nil (map (choice_of phase) (applications_of sig book.lists number rule goals)))
    ∙ sym (ap (flat_map finds) (one_rule book number rule rule_is)))

apps_again : (percent : ℕ) (postponed : Bool) (apps : List App) → map (λ (c : Choice). c.app) (map (as_choice percent postponed) apps) ≡ apps
apps_again percent postponed [] = refl
apps_again percent postponed (a ∷ rest) = ap (λ xs. a ∷ xs) (apps_again percent postponed rest)

pub shapes_added : (goals : List LfGoal) (percent : ℕ) (postponed : Bool) (apps : List App) → KnowShapes goals apps →
    (old new : List Choice) → new ≡ old ++ map (as_choice percent postponed) apps → KnowShapes goals (map (λ choice. choice.app) old) → KnowShapes goals (map (λ choice. choice.app) new)
shapes_added goals percent postponed apps here old new new_is before =
    let app_of : Choice → App = λ c. c.app in
    let P : App → Type 0 = λ app. HaveShapesOf goals app.assign in
    let Q : List App → Type 0 = All P in
    let are : map app_of new ≡ map app_of old ++ apps =
    ap (map app_of) new_is ∙ map-append app_of old (map (as_choice percent postponed) apps) ∙ ap (λ xs. map app_of old ++ xs) (apps_again percent postponed apps) in
    subst Q (sym are) (All-append P (map app_of old) apps before here)
