-- What may come after a normal form: the list after a step can be made, and its assignment may follow that of the normal form.
use Rattle.std.proofs.Common.{◌≡◌, ◌∙◌, ℕ, ◌<◌, Bool, Option, Some, None, option_map, List, [], All, refl, sym, ap, ap₂, subst}
use Rattle.std.specs.Option.{option_to_list}
use Rattle.std.proofs.lemmas.List.Elements.{All-head}
use Rattle.lf_definitions.specs.ShapedGoals.{ShapedGoals}
use Rattle.lf_definitions.specs.Typing.{LfGoal}
use Rattle.lf_definitions.specs.Signatures.{LfSignature}
use Rattle.lf_definitions.specs.GoalLists.{LfGoals, all_goals, next_id}
use Rattle.lf_definitions.specs.Instantiation.{LfAssigned}
use Rattle.applications.specs.Methods.{LfLabel}
use Rattle.applications.specs.Applications.{LfApplication}
use Rattle.alternatives.specs.Rules.{LfRule}
use Rattle.alternatives.specs.Alternatives.{LfLast, first_safe}
use Rattle.goal_book.specs.Choices.{LfChoice, choices}
use Rattle.alternatives.specs.ListsAfter.{with_new, list_after}
use Rattle.alternatives.specs.Taking.{Takes}
use Rattle.alternatives.specs.NormalForms.{normal_form}
use Rattle.alternatives.specs.Steps.{AreOldOrNew}
use Rattle.derivations.specs.Replays.{LfStep}
use Rattle.meta_goals.specs.Bindings.{LfBinding}
use Rattle.meta_goals.specs.Laws.{HaveShapesOf}
use Rattle.build_shared.specs.declared.app.App.{App}
use Rattle.build_shared.specs.RuleUses.{KnowShapes}
use Rattle.build_shared.specs.Seen.{seen_application}
use Rattle.goal_advance.specs.Following.{MayFollow}
use Rattle.goal_book.specs.GoalBooks.{LfBook, rules_in}
use Rattle.goal_expand.specs.Reaching.{IsNormal}
use Rattle.goal_expand.proofs.NextSteps.{shapes_with_new}
use Rattle.proof_replay.specs.Naming.{named_of, named_in, MayCome}
use Rattle.proof_replay.specs.Turns.{MayBeFollowed}
use Rattle.proof_replay.proofs.Alternatives.{below_next, may_be_expanded}
use Rattle.proof_replay.proofs.Named.{reached, named_is_step}

module _ (sig : LfSignature) (list goals : LfGoals) (build : List LfBinding) (app : App) (may : MayCome sig list goals build app) where
  pub shapes_of_all : HaveShapesOf (all_goals (with_new goals (seen_application app))) app.assign
  shapes_of_all = shapes_with_new sig (next_id goals) goals (seen_application app) may.step app.assign refl may.app_shapes

  abbrev pub may_follow : (first : ℕ) → first ≡ next_id list → MayFollow first build app.assign
  may_follow first is = record {
    sig = sig;
    before = list;
    between = goals;
    after = list_after goals (seen_application app);
    takes_earlier = may.takes;
    takes_later = may.step.takes;
    earlier_shapes = may.shapes;
    later_shapes = may.app_shapes;
    shaped = may.shaped;
    below = subst (λ n. All (λ (g : LfGoal). g.id < n) (all_goals list)) (sym is) (below_next list);
    old_or_new = subst (λ n. AreOldOrNew list n goals) (sym is) may.old_or_new;
  }

pub both_are : (a c : LfGoals) (b d : List LfAssigned) → a ≡ c → b ≡ d → ◌≡◌ {A = LfGoals × List LfAssigned} (a, b) (c, d)
both_are a c b d e f = let pair : LfGoals → List LfAssigned → LfGoals × List LfAssigned = λ x y. (x, y) in ap₂ pair e f

-- What is named after a normal form that is not closed may come.
module _ (b : LfBook) (may : MayBeFollowed b) (list : LfGoals) (shaped : ShapedGoals b.sig (all_goals list)) (goals : LfGoals) where
  -- the list of the normal form is shaped
  pub normal_is_shaped : (labels : List LfLabel) (closed : Bool) (build : List LfBinding) → IsNormal (normal_form b.sig (rules_in b) (next_id list) list) labels closed goals build → (step : LfStep) → ShapedGoals b.sig (all_goals goals)
  normal_is_shaped labels closed build is step = subst (λ l. ShapedGoals b.sig (all_goals l)) (sym is.goals_are) (reached b may list shaped labels closed goals build is step).takes.shaped

  pub named_may_come : (labels : List LfLabel) (closed : Bool) (build : List LfBinding) → IsNormal (normal_form b.sig (rules_in b) (next_id list) list) labels closed goals build → (step : LfStep) → HaveShapesOf (all_goals list) build →
      (o : Option App) (app : App) → o ≡ Some app → option_map seen_application o ≡ named_in b.sig (rules_in b) goals step.last → KnowShapes (all_goals goals) (option_to_list o) →
      MayCome b.sig list goals build app
  named_may_come labels closed build is step shapes o app there named known =
      let r = reached b may list shaped labels closed goals build is step in
      record {
        shaped = shaped;
        takes = subst (Takes b.sig list goals) (sym is.build_is) (subst (λ l. Takes b.sig list l (normal_form b.sig (rules_in b) (next_id list) list).build) (sym is.goals_are) r.takes);
        shapes = shapes;
        old_or_new = subst (AreOldOrNew list (next_id list)) (sym is.goals_are) r.old_or_new;
        step =
            named_is_step b.sig (rules_in b) goals (may_be_expanded b may goals (normal_is_shaped labels closed build is step)) step.last (seen_application app)
            (sym named ∙ ap (option_map seen_application) there);
        app_shapes = All-head (λ (x : App). HaveShapesOf (all_goals goals) x.assign) app [] (subst (λ x. KnowShapes (all_goals goals) (option_to_list x)) there known);
      }

-- Where no safe application may be committed, a choice is named.
pub named_by_choice : (sig : LfSignature) (rules : List LfRule) (goals : LfGoals) (last : LfLast) (o : Option App) → o ≡ None → option_map seen_application o ≡ first_safe sig rules (next_id goals) goals →
    (cs : List LfChoice) → cs ≡ choices sig rules (next_id goals) goals → (r : Option LfApplication) → r ≡ named_of last None cs → r ≡ named_in sig rules goals last
named_by_choice sig rules goals last o none safe cs are r is =
    is ∙ ap (named_of last None) are ∙ ap (λ x. named_of last x (choices sig rules (next_id goals) goals)) (sym (ap (option_map seen_application) none) ∙ safe)
