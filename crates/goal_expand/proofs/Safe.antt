-- What comes after a normal form that is not closed.
use Rattle.std.proofs.Common.{◌≡◌, ◌∙◌, Some, None, List, [], ◌∷◌, map, All, sym, ap, subst}
use Rattle.std.proofs.lemmas.List.Elements.{All-nil, All-cons, All-head, All-tail}
use Rattle.lf_definitions.specs.GoalLists.{all_goals, next_id}
use Rattle.meta_goals.specs.Laws.{HaveShapesOf}
use Rattle.alternatives.specs.Alternatives.{first_safe, committed_or_chosen}
use Rattle.alternatives.specs.Steps.{IsStep}
use Rattle.alternatives.specs.Reaching.{MayBeExpanded}
use Rattle.build_shared.specs.declared.app.App.{App}
use Rattle.build_shared.specs.RuleUses.{KnowShapes}
use Rattle.build_shared.specs.Seen.{seen_application}
use Rattle.goal_book.specs.declared.choices.Choice.{Choice}
use Rattle.goal_book.specs.Choices.{LfChoice, seen_choice, choices}
use Rattle.goal_expand.specs.declared.given.Given.{Given}
use Rattle.goal_expand.specs.declared.progress.Progress.{Progress}
use Rattle.goal_expand.specs.Progress.{sig_given, rules_given, list_given, IsGiven, bindings_reached, goals_made, IsReachedFrom, MayBeNext, normal_made, committed_by, as_taken, alternatives_made, choices_made}
use Rattle.goal_expand.proofs.NextSteps.{safe_is_step, choices_are_steps}
use Rattle.goal_expand.proofs.Reached.{may_be_expanded_on}
use Rattle.goal_expand.proofs.Choices.{choices_are_taken}

module _ (g : Given) (given : IsGiven g) (p : Progress) (reached : IsReachedFrom g p.reached) where
  may_be_asked : MayBeExpanded (sig_given g) (rules_given g) (next_id (goals_made g p)) (goals_made g p)
  may_be_asked = may_be_expanded_on (sig_given g) (rules_given g) (list_given g) (goals_made g p) (bindings_reached p.reached) given.may_expand reached

  pub none_safe : first_safe (sig_given g) (rules_given g) (next_id (goals_made g p)) (goals_made g p) ≡ None → choices_made g p ≡ alternatives_made g p
  none_safe e = ap (committed_or_chosen (sig_given g) (rules_given g) (list_given g) (normal_made g p)) (sym e)

  pub some_safe : (app : App) → first_safe (sig_given g) (rules_given g) (next_id (goals_made g p)) (goals_made g p) ≡ Some (seen_application app) →
      committed_by g p app ∷ [] ≡ alternatives_made g p
  some_safe app e = ap (committed_or_chosen (sig_given g) (rules_given g) (list_given g) (normal_made g p)) (sym e)

  pub safe_is_next : (app : App) → first_safe (sig_given g) (rules_given g) (next_id (goals_made g p)) (goals_made g p) ≡ Some (seen_application app) →
      HaveShapesOf (all_goals (goals_made g p)) app.assign → MayBeNext g p.reached app
  safe_is_next app e shapes = record {
    step = safe_is_step (sig_given g) (rules_given g) (next_id (goals_made g p)) (goals_made g p) may_be_asked (seen_application app) e;
    shapes = shapes;
  }

  abbrev IsChosenStep : LfChoice → Type 0
  IsChosenStep c = IsStep (sig_given g) (next_id (goals_made g p)) (goals_made g p) c.application

  each_is_next : (cs : List Choice) → All IsChosenStep (map seen_choice cs) → KnowShapes (all_goals (goals_made g p)) (map (λ choice. choice.app) cs) →
      All (λ choice. MayBeNext g p.reached choice.app) cs
  each_is_next [] steps shapes = All-nil (λ (choice : Choice). MayBeNext g p.reached choice.app)
  each_is_next (c ∷ rest) steps shapes =
      All-cons (λ (choice : Choice). MayBeNext g p.reached choice.app) c rest
      (record {
        step = All-head IsChosenStep (seen_choice c) (map seen_choice rest) steps;
        shapes = All-head (λ (app : App). HaveShapesOf (all_goals (goals_made g p)) app.assign) c.app (map (λ choice. choice.app) rest) shapes;
      })
      (each_is_next rest (All-tail IsChosenStep (seen_choice c) (map seen_choice rest) steps)
      (All-tail (λ (app : App). HaveShapesOf (all_goals (goals_made g p)) app.assign) c.app (map (λ choice. choice.app) rest) shapes))

  pub choices_are_next : (cs : List Choice) → map seen_choice cs ≡ choices (sig_given g) (rules_given g) (next_id (goals_made g p)) (goals_made g p) →
      KnowShapes (all_goals (goals_made g p)) (map (λ choice. choice.app) cs) → All (λ choice. MayBeNext g p.reached choice.app) cs
  choices_are_next cs e shapes =
      each_is_next cs (subst (All IsChosenStep) (sym e) (choices_are_steps (sig_given g) (rules_given g) (next_id (goals_made g p)) (goals_made g p) may_be_asked)) shapes

-- All choices, as alternatives.
pub all_are_taken : (g : Given) (p : Progress) (cs : List Choice) → map seen_choice cs ≡ choices (sig_given g) (rules_given g) (next_id (goals_made g p)) (goals_made g p) →
    map (as_taken g p) (map seen_choice cs) ≡ choices_made g p
all_are_taken g p cs e = ap (map (as_taken g p)) e ∙ sym (choices_are_taken (sig_given g) (rules_given g) (list_given g) (normal_made g p))
