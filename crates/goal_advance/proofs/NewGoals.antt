-- With the new goals of an application, too, each of its entries has the shapes of its goal's context.
use Rattle.std.proofs.Common.{◌≡◌, ◌⊎◌, inl, inr, ℕ, Some, List, [], ◌++◌, map, All, sym, ap, ◌∙◌, slice_get, option_map}
use Rattle.std.specs.Prelude.{Contains}
use Rattle.std.proofs.lemmas.Option.{slice_get-map}
use Rattle.std.proofs.lemmas.List.Elements.{All-contains, All-contains_itself, All-weaker, Contains-append_left, Contains-append_right, Contains-append_cases}
use Rattle.lf_definitions.specs.Syntax.{metavariable, base, arrows, shapes_of_types}
use Rattle.lf_definitions.specs.ShapedGoals.{scope_in}
use Rattle.lf_definitions.specs.Typing.{LfGoal}
use Rattle.lf_definitions.specs.Signatures.{LfSignature}
use Rattle.lf_definitions.specs.GoalLists.{LfGoals, all_goals, ids}
use Rattle.lf_definitions.proofs.Options.{Some_inj}
use Rattle.lf_definitions.proofs.Typing.{shape_of-pis}
use Rattle.alternatives.specs.ListsAfter.{with_new, list_after}
use Rattle.alternatives.specs.Taking.{MayBeTaken, Takes}
use Rattle.meta_goals.specs.Bindings.{LfBinding, assigned_of}
use Rattle.meta_goals.specs.Laws.{HaveShapesOf}
use Rattle.build_shared.specs.declared.app.App.{App}
use Rattle.build_shared.specs.Seen.{seen_application}
use Rattle.build_shared.proofs.BindingLists.{All-at, All-from_places}
use Rattle.build_shared.proofs.UnifierEnds.{goal_shape, context_shapes}
use Rattle.goal_advance.proofs.EarlierEntries.{goal_numbered}

module _ (sig : LfSignature) (list : LfGoals) (app : App) (may : MayBeTaken sig list (seen_application app)) (takes : Takes sig list (list_after list (seen_application app)) (seen_application app).assigned)
    (shapes : HaveShapesOf (all_goals list) app.assign) where
  abbrev Whole : List LfGoal
  Whole = all_goals (with_new list (seen_application app))

  in_whole : (g : LfGoal) → Contains (all_goals list) g → Contains Whole g
  in_whole g there = either (Contains-append_cases list.proofs list.witnesses g there)
    where
      either : Contains list.proofs g ⊎ Contains list.witnesses g → Contains Whole g
      either (inl p) = Contains-append_left (app.proofs ++ list.proofs) (list.witnesses ++ app.witnesses) g (Contains-append_right app.proofs list.proofs g p)
      either (inr w) = Contains-append_right (app.proofs ++ list.proofs) (list.witnesses ++ app.witnesses) g (Contains-append_left list.witnesses app.witnesses g w)

  pub shapes_with_new : HaveShapesOf Whole app.assign
  shapes_with_new = All-from_places (λ b. All (λ g. g.id ≡ b.number → b.shapes ≡ shapes_of_types g.context) Whole) app.assign each
    where
      each : (i : ℕ) (b : LfBinding) → slice_get app.assign i ≡ Some b → All (λ g. g.id ≡ b.number → b.shapes ≡ shapes_of_types g.context) Whole
      each i b there = All-weaker (Contains Whole) (λ g. g.id ≡ b.number → b.shapes ≡ shapes_of_types g.context) at_goal Whole (All-contains_itself Whole)
        where
          key : Contains (ids (all_goals list)) b.number
          key =
              All-at (λ e. Contains (ids (all_goals list)) e.assigned_goal) (map assigned_of app.assign) i (assigned_of b) takes.keys (slice_get-map assigned_of app.assign i ∙ ap (option_map assigned_of) there)

          its_goal : (h : LfGoal) × Contains (all_goals list) h × (h.id ≡ b.number)
          its_goal = goal_numbered (all_goals list) b.number key

          known : b.shapes ≡ shapes_of_types its_goal.0.context
          known =
              All-contains (λ h. h.id ≡ b.number → b.shapes ≡ shapes_of_types h.context) (all_goals list) its_goal.0
              (All-at (λ d. All (λ h. h.id ≡ d.number → d.shapes ≡ shapes_of_types h.context) (all_goals list)) app.assign i b shapes there) its_goal.1 its_goal.2

          at_goal : (g : LfGoal) → Contains Whole g → g.id ≡ b.number → b.shapes ≡ shapes_of_types g.context
          at_goal g one_of same =
              let h = its_goal.0 in
              let here = goal_shape sig Whole may.shaped.0 g one_of in
              let own = goal_shape sig Whole may.shaped.0 h (in_whole h its_goal.1) in
              context_shapes g b.shapes
              (Some_inj here (ap (λ m. scope_in sig Whole [] (metavariable m)) (same ∙ sym its_goal.2) ∙ own) ∙ shape_of-pis h.context h.target.atom_family h.target.atom_args ∙ ap (λ l. arrows l base) (sym known))
