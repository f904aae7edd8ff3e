-- The list after an application: it has the instance of each goal that has no entry, old or fresh, under the whole assignment.
use Rattle.std.proofs.Common.{◌≡◌, ◌⊎◌, inl, inr, ℕ, ◌<◌, ◌≤◌, Option, Some, None, List, [], ◌∷◌, ◌++◌, All, length, get_or, refl, sym, ap, ◌∙◌, subst, arith}
use Rattle.std.specs.Prelude.{not, Contains}
use Rattle.std.proofs.lemmas.List.Elements.{All-append, All-weaker, All-contains, All-contains_itself}
use Rattle.lf_definitions.specs.Syntax.{metavariable, LfTerm}
use Rattle.lf_definitions.specs.Occurrence.{OccursIn, OccursInGoal}
use Rattle.lf_definitions.specs.Replacements.{Goes}
use Rattle.lf_definitions.specs.ShapedGoals.{scope_in, ShapedGoal, ShapedGoals}
use Rattle.lf_definitions.specs.Typing.{LfGoal, goal_type}
use Rattle.lf_definitions.specs.Signatures.{LfSignature, constant_types}
use Rattle.lf_definitions.specs.Syntax.{shapes_of_types}
use Rattle.lf_definitions.specs.GoalLists.{LfGoals, all_goals, ids}
use Rattle.lf_definitions.specs.Instantiation.{Assignment, assignment_of, instantiating}
use Rattle.lf_definitions.proofs.Options.{None-Some}
use Rattle.goal_lists.specs.Laws.{GoesToGoals}
use Rattle.goal_lists.proofs.Laws.{shaped_goals_mention_no_others}
use Rattle.goal_lists.proofs.Leaving.{All-parts}
use Rattle.lf_functions.specs.Instances.{instance_of_goal}
use Rattle.lf_functions.specs.MentionLaws.{StaysOrIsPut}
use Rattle.lf_functions.proofs.InstanceLaws.{instances_look_at_what_occurs, unassigned_instances_are_the_same}
use Rattle.lf_functions.proofs.MentionLaws.{instances_mention_what_is_put, instances_are_among_any_goals}
use Rattle.lf_functions.proofs.CheckingLaws.{has_type_knows_what_occurs}
use Rattle.opening_laws.proofs.Numbers.{more_goals}
use Rattle.applications.specs.Methods.{LfCandidate}
use Rattle.applications.specs.Applications.{LfApplication, goals_left, fresh_left}
use Rattle.application_laws.specs.Conditions.{new_goals}
use Rattle.application_laws.proofs.Members.{IsIn, in_left, in_right, in_either, in_contained, contains_in, goal_is_in, in_below, in_is_between, numbered_from_places, instance_id, left_is_in, typed_is_in, tested_entry, among_same, among_only}
use Rattle.application_laws.proofs.Counted.{all_with, whole_with, left_with, application_with}
use Rattle.completion_laws.specs.Laws.{IsTestedBesides, goal_besides}
use Rattle.build_laws.proofs.Entries.{goal_of_number}
use Rattle.alternatives.specs.ListsAfter.{with_new, list_after}
use Rattle.step_laws.proofs.Numbers.{number_in}
use Rattle.step_laws.proofs.Found.{HoldsWhereLeft, All-from_goals_left, All-from_fresh_left}
use Rattle.step_laws.proofs.Completed.{support, tested}
use Rattle.typed_steps.proofs.Situations.{IsMade, shaped_signature, shaped_goals, is_step}

module _ (sig : LfSignature) (list : LfGoals) (n : ℕ) (g : LfGoal) (c : LfCandidate) (a : LfApplication) (m : IsMade sig list n g c a) where
  abbrev pub Old : List LfGoal
  Old = all_goals list

  abbrev pub Everything : List LfGoal
  Everything = all_with Old c

  -- the whole assignment, and that of old goals
  abbrev pub Whole : Assignment
  Whole = assignment_of (whole_with Old g c m.counted.entries m.counted.done)

  abbrev pub Put : Assignment
  Put = assignment_of a.assigned

  abbrev pub Left : List LfGoal
  Left = left_with Old g c m.counted.entries m.counted.done

  abbrev pub After : List LfGoal
  After = all_goals (list_after list a)

  abbrev pub With : List LfGoal
  With = all_goals (with_new list a)

  -- the list in which entries are tested, and the goal besides
  abbrev pub Rest : List LfGoal
  Rest = Left ++ goal_besides Old g c m.counted.entries m.counted.done ∷ []

  pub besides : IsTestedBesides sig Old g c m.counted.entries m.counted.done
  besides = tested sig (shaped_signature sig list n g c a m) list (shaped_goals sig list n g c a m) n m.below g m.is_first c m.may_be_used a m.counted

  pub shaped_old : ShapedGoals sig Old
  shaped_old = shaped_goals sig list n g c a m

  pub shaped_after : ShapedGoals sig After
  shaped_after = (is_step sig list n g c a m).takes.shaped

  pub put_is_whole : (k : ℕ) → IsIn k (ids Old) → Put k ≡ Whole k
  put_is_whole k is = ap (λ y. assignment_of y.assigned k) m.counted.is ∙ among_same (ids Old) (whole_with Old g c m.counted.entries m.counted.done) k is

  pub put_only_old : (k : ℕ) (u : LfTerm) → Put k ≡ Some u → IsIn k (ids Old)
  put_only_old k u found = among_only (ids Old) (whole_with Old g c m.counted.entries m.counted.done) k u (sym (ap (λ y. assignment_of y.assigned k) m.counted.is) ∙ found)

  whole_none : (k : ℕ) → Whole k ≡ None → Put k ≡ None
  whole_none k none = step (Put k) refl
    where
      step : (o : Option LfTerm) → Put k ≡ o → o ≡ None
      step None e = refl
      step (Some u) e = absurd (None-Some none (sym (put_is_whole k (put_only_old k u e)) ∙ e))

  above_none : (k : ℕ) → n ≤ k → Put k ≡ None
  above_none k high = step (Put k) refl
    where
      step : (o : Option LfTerm) → Put k ≡ o → o ≡ None
      step None e = refl
      step (Some u) e = let low = in_below k n Old m.below (put_only_old k u e) in absurd (omega (arith, low, high))

  new_numbers : All (λ h. n ≤ h.id) (new_goals (application_with Old g c m.counted.entries m.counted.done))
  new_numbers = (support sig (shaped_signature sig list n g c a m) list shaped_old n m.below g m.is_first c m.may_be_used a m.counted).new_numbers

  -- What is known of what is left is not assigned.
  pub left_has_none : (k : ℕ) → IsIn k (ids Left) → Put k ≡ None
  left_has_none k is = each (in_either k (goals_left Everything Whole Everything) m.counted.done.more is)
    where
      proofs : List LfGoal
      proofs = fresh_left (λ mark. mark) Everything Whole c.opened.fresh c.are_proofs

      each : IsIn k (ids (goals_left Everything Whole Everything)) ⊎ IsIn k (ids m.counted.done.more) → Put k ≡ None
      each (inl p) = whole_none k (left_is_in Everything Whole Everything k p).1
      each (inr p) =
          above_none k (number_in (λ j. n ≤ j) (new_goals (application_with Old g c m.counted.entries m.counted.done)) new_numbers k
          (in_left k (proofs ++ m.counted.done.more) (fresh_left not Everything Whole c.opened.fresh c.are_proofs) (in_right k proofs m.counted.done.more p)))

  -- The bodies mention what is left alone.
  pub body_mentions : (j : ℕ) (u : LfTerm) → IsIn j (ids Everything) → Whole j ≡ Some u → (k : ℕ) → OccursIn (metavariable k) u → IsIn k (ids Left)
  body_mentions j u is found k o =
      let t = tested_entry sig Everything Whole Left Everything m.counted.are_typed j u is found in
      let known = has_type_knows_what_occurs sig Left [] u (goal_type (instance_of_goal Everything Whole t.0)) t.1 k o in
      typed_is_in Left k known.0 known.1

  closed_all : All (λ h. (k : ℕ) → OccursInGoal (metavariable k) h → Contains (ids Everything) k) Everything
  closed_all = shaped_goals_mention_no_others sig Everything m.may_be_used.goals_are_shaped

  instance_mentions : (h : LfGoal) → ((k : ℕ) → OccursInGoal (metavariable k) h → Contains (ids Everything) k) → (k : ℕ) → OccursInGoal (metavariable k) (instance_of_goal Everything Whole h) → Put k ≡ None
  instance_mentions h closed k o = each ((instances_mention_what_is_put Everything Whole k).4 h o)
    where
      each : StaysOrIsPut Whole (λ j. OccursInGoal (metavariable j) h) k → Put k ≡ None
      each (inl (p, none)) = whole_none k none
      each (inr (j, u, p, found, inside)) = left_has_none k (body_mentions j u (in_contained j (ids Everything) (closed j p)) found k inside)

  -- An old goal has one instance under both assignments.
  pub old_instance : (h : LfGoal) → Contains Old h → instance_of_goal Everything Whole h ≡ instance_of_goal Old Put h
  old_instance h has =
      (instances_are_among_any_goals sig sig Old Everything [] [] Whole (goes.0, scope_in sig Rest [], from_old) (goes.0, scope_in sig Rest [], goes.1)).5 h
      (All-contains (ShapedGoal sig Old) Old h shaped_old.1 has)
      (All-contains (ShapedGoal sig Everything) Old h (All-parts (ShapedGoal sig Everything) Old c.opened.fresh m.may_be_used.goals_are_shaped.1).0 has)
      ∙ (instances_look_at_what_occurs Old Whole Put).5 h (λ k o. sym (put_is_whole k (in_contained k (ids Old) (All-contains (λ x. (j : ℕ) → OccursInGoal (metavariable j) x → Contains (ids Old) j) Old h (shaped_goals_mention_no_others sig Old shaped_old) has k o))))
    where
      goes : GoesToGoals sig Everything Rest Whole
      goes = besides.goes

      from_old : Goes goes.0 (scope_in sig Old []) (scope_in sig Rest []) (instantiating Whole)
      from_old h s e = goes.1 h s (more_goals (shapes_of_types (constant_types sig)) Old c.opened.fresh [] h s e)

  -- It is one of the list after.
  pub old_stays : (h : LfGoal) → Contains Old h → Put h.id ≡ None → Contains After (instance_of_goal Old Put h)
  old_stays h has none =
      let takes = (is_step sig list n g c a m).takes in
      let there = (takes.assigned_or_left h.id (contains_in h.id (ids Old) (goal_is_in Old h has))).0 none in
      let k = goal_of_number After h.id (in_contained h.id (ids After) there) in
      subst (Contains After) (takes.left_under h k.0 has k.1 k.2) k.1

  -- So is the instance of each new goal, under the assignment once more.
  abbrev pub IsAfter : LfGoal → Type 0
  IsAfter = HoldsWhereLeft (Contains After) With Put

  new_after : All IsAfter a.proofs × All IsAfter a.witnesses
  unfolding list_after
  new_after =
      let front = goals_left With Put (a.proofs ++ list.proofs) in
      let back = goals_left With Put (list.witnesses ++ a.witnesses) in
      let parts = All-parts (Contains After) front back (All-contains_itself After) in (
        (All-parts IsAfter a.proofs list.proofs (All-from_goals_left (Contains After) With Put (a.proofs ++ list.proofs) parts.0)).0,
        (All-parts IsAfter list.witnesses a.witnesses (All-from_goals_left (Contains After) With Put (list.witnesses ++ a.witnesses) parts.1)).1,
      )

  proofs_after : All IsAfter (fresh_left (λ mark. mark) Everything Whole c.opened.fresh c.are_proofs) × All IsAfter m.counted.done.more
  proofs_after = All-parts IsAfter (fresh_left (λ mark. mark) Everything Whole c.opened.fresh c.are_proofs) m.counted.done.more (subst (λ y. All IsAfter y.proofs) m.counted.is new_after.0)

  -- the goals that are added
  pub added_after : All (λ h. Contains After (instance_of_goal With Put h)) m.counted.done.more
  added_after =
      let proofs = fresh_left (λ mark. mark) Everything Whole c.opened.fresh c.are_proofs in
      let numbers = (All-parts (λ h. n ≤ h.id) proofs m.counted.done.more (All-parts (λ h. n ≤ h.id) (proofs ++ m.counted.done.more) (fresh_left not Everything Whole c.opened.fresh c.are_proofs) new_numbers).0).1 in
      λ i d less. proofs_after.1 i d less (above_none _ (numbers i d less))

  fresh_after_put : All (λ h. Whole h.id ≡ None → IsAfter (instance_of_goal Everything Whole h)) c.opened.fresh
  fresh_after_put =
      All-from_fresh_left IsAfter Everything Whole c.opened.fresh c.are_proofs m.may_be_used.have_marks proofs_after.0 (subst (λ y. All IsAfter y.witnesses) m.counted.is new_after.1)

  fresh_number : (h : LfGoal) → Contains c.opened.fresh h → n ≤ h.id
  fresh_number h has = (in_is_between n c.opened.fresh (numbered_from_places n c.opened.fresh m.may_be_used.fresh_are_numbered) h.id (goal_is_in c.opened.fresh h has)).0

  -- What is left of a fresh goal stays as it is.
  pub fresh_once : (h : LfGoal) → Contains c.opened.fresh h → instance_of_goal With Put (instance_of_goal Everything Whole h) ≡ instance_of_goal Everything Whole h
  fresh_once h has =
      (unassigned_instances_are_the_same With Put).5 (instance_of_goal Everything Whole h)
      (instance_mentions h (All-contains (λ y. (k : ℕ) → OccursInGoal (metavariable k) y → Contains (ids Everything) k) c.opened.fresh h
      (All-parts (λ y. (k : ℕ) → OccursInGoal (metavariable k) y → Contains (ids Everything) k) Old c.opened.fresh closed_all).1 has))

  abbrev pub StaysAfter : LfGoal → Type 0
  StaysAfter h = Whole h.id ≡ None → Contains After (instance_of_goal Everything Whole h)

  fresh_stay : All StaysAfter c.opened.fresh
  fresh_stay = λ i d less none. fresh_one _ (get_contained i d less) (fresh_after_put i d less none) none
    where
      get_contained : (i : ℕ) (d : LfGoal) (less : i < length c.opened.fresh) → Contains c.opened.fresh (get_or c.opened.fresh i d)
      get_contained i d less = All-contains_itself c.opened.fresh i d less

      fresh_one : (h : LfGoal) → Contains c.opened.fresh h → IsAfter (instance_of_goal Everything Whole h) → Whole h.id ≡ None → Contains After (instance_of_goal Everything Whole h)
      fresh_one h has after none = subst (Contains After) (fresh_once h has) (after (ap Put (instance_id Everything Whole h) ∙ above_none h.id (fresh_number h has)))

  old_stay : All StaysAfter Old
  old_stay = All-weaker (Contains Old) StaysAfter (λ h has none. subst (Contains After) (sym (old_instance h has)) (old_stays h has (whole_none h.id none))) Old (All-contains_itself Old)

  pub all_stay : All StaysAfter Everything
  all_stay = All-append StaysAfter Old c.opened.fresh old_stay fresh_stay
