-- What is known of what was made, once normalisation has ended.
use Rattle.std.proofs.Common.{◌≡◌, ◌∙◌, ℕ, true, false, List, [], ◌∷◌, map, sym, ap, subst}
use Rattle.lf_definitions.specs.GoalLists.{LfGoals, all_goals, next_id}
use Rattle.lf_definitions.specs.Instantiation.{LfAssigned}
use Rattle.applications.specs.Methods.{LfLabel}
use Rattle.meta_goals.specs.Bindings.{assigned_of}
use Rattle.meta_goals.specs.GoalsOf.{goals_of}
use Rattle.meta_goals.specs.Laws.{HaveShapesOf}
use Rattle.alternatives.specs.NormalForms.{LfNormal, normal_form}
use Rattle.alternatives.specs.Alternatives.{LfLast, done, LfAlternative, alternatives}
use Rattle.goal_expand.specs.declared.given.Given.{Given}
use Rattle.goal_expand.specs.declared.normal.Normed.{Normed}
use Rattle.goal_expand.specs.declared.progress.Progress.{Progress}
use Rattle.goal_expand.specs.Progress.{sig_given, rules_given, list_given, IsGiven, goals_reached, bindings_reached, goals_made, labels_made, IsReachedFrom, HasEnded, alternatives_made}
use Rattle.goal_expand.specs.Seen.{IsNormedOf, IsAsMade, done_with}
use Rattle.goal_expand.proofs.Reached.{open_is_reached}
use Rattle.goal_expand.proofs.Choices.{from_closed, from_open, alternatives_are}
use Rattle.build_shared.specs.Seen.{seen_label}

module _ (g : Given) (given : IsGiven g) (p : Progress) (ended : HasEnded g p) where
  abbrev Whole : LfNormal
  Whole = normal_form (sig_given g) (rules_given g) (next_id (list_given g)) (list_given g)

  -- The normal form is the one of the list.
  pub is_normed : (n : Normed) → IsAsMade (list_given g) p n → IsNormedOf g.book.now (list_given g) n
  is_normed n made = record {
    labels_are = ap (map seen_label) made.labels_are ∙ ended.0.labels_are;
    closed_is = made.closed_is ∙ ended.0.closed_is;
    goals_are = made.goals_are ∙ ended.0.goals_are;
    build_is = ap (map assigned_of) made.build_is ∙ ended.0.build_is;
  }

  pub has_shapes : (n : Normed) → IsAsMade (list_given g) p n → HaveShapesOf (all_goals (list_given g)) n.build
  has_shapes n made = subst (HaveShapesOf (all_goals (list_given g))) (sym made.build_is) ended.1

  -- Where it is closed, it is the one alternative.
  pub closed_alternatives : p.closed ≡ true → done_with (list_given g) p ∷ [] ≡ alternatives (sig_given g) (rules_given g) (next_id (list_given g)) (list_given g)
  closed_alternatives closed =
      sym (alternatives_are (sig_given g) (rules_given g) (next_id (list_given g)) (list_given g)
      ∙ from_closed (sig_given g) (rules_given g) (list_given g) Whole (labels_made p) p.closed (goals_made g p) (bindings_reached p.reached) ended.0 closed)

  module _ (not_closed : p.closed ≡ false) where
    reached_and_fresh : IsReachedFrom g p.reached × (next_id (goals_made g p) ≡ Whole.fresh)
    reached_and_fresh =
        open_is_reached (sig_given g) (rules_given g) (list_given g) given.may_expand (labels_made p) p.closed (goals_made g p) (bindings_reached p.reached) ended.0 not_closed ended.1

    pub is_reached : IsReachedFrom g p.reached
    is_reached = reached_and_fresh.0

    pub open_alternatives : alternatives_made g p ≡ alternatives (sig_given g) (rules_given g) (next_id (list_given g)) (list_given g)
    open_alternatives =
        sym (alternatives_are (sig_given g) (rules_given g) (next_id (list_given g)) (list_given g)
        ∙ from_open (sig_given g) (rules_given g) (list_given g) Whole (labels_made p) p.closed (goals_made g p) (bindings_reached p.reached) ended.0 not_closed (next_id (goals_made g p)) reached_and_fresh.1)

abbrev pub parts : List LfLabel → LfLast → ℕ → LfGoals → List LfAssigned → LfAlternative
parts norm last percent goals build = record { norm = norm; last = last; percent = percent; goals = goals; build = build }

-- The one alternative where it is closed.
pub done_is : (list : LfGoals) (p : Progress) (n : Normed) → IsAsMade list p n → parts (map seen_label n.labels.items) done 100 (goals_of n.goals) (map assigned_of n.build) ≡ done_with list p
done_is list p n made =
    ap (λ x. parts (map seen_label x) done 100 (goals_of n.goals) (map assigned_of n.build)) made.labels_are
    ∙ ap (λ x. parts (labels_made p) done 100 x (map assigned_of n.build)) made.goals_are
    ∙ ap (λ x. parts (labels_made p) done 100 (goals_reached list p.reached) (map assigned_of x)) made.build_is
