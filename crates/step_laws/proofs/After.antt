-- What an application leaves of the goals with its new ones, where its assignment goes, and the step that it makes.
use Rattle.std.proofs.Common.{◌≡◌, ◌⊎◌, inl, inr, ℕ, ◌<◌, ◌≤◌, Option, Some, None, List, [], ◌++◌, All, refl, sym, ap, ◌∙◌, subst, arith, append-nil}
use Rattle.std.specs.Prelude.{◌↔◌, Contains}
use Rattle.std.proofs.Math.Nat.{le-max_left, le-max_right}
use Rattle.std.proofs.lemmas.List.Elements.{All-weaker, All-contains, All-contains_itself}
use Rattle.lf_definitions.specs.Syntax.{LfTerm, SimpleType}
use Rattle.lf_definitions.specs.Shaping.{Shaped}
use Rattle.lf_definitions.specs.Occurrence.{OccursIn}
use Rattle.lf_definitions.specs.ShapedGoals.{ShapedSignature, scope_in, ShapedGoal, ShapedGoals}
use Rattle.lf_definitions.specs.Typing.{LfGoal}
use Rattle.lf_definitions.specs.Signatures.{LfSignature}
use Rattle.lf_definitions.specs.GoalLists.{LfGoals, all_goals, ids, above, first_goal}
use Rattle.lf_definitions.specs.Instantiation.{Assignment, assignment_of}
use Rattle.head_laws.specs.AssignmentLaws.{AssignsClosedTerms}
use Rattle.lf_definitions.proofs.Options.{Some_inj}
use Rattle.goal_lists.specs.Assigning.{Leaves}
use Rattle.goal_lists.specs.Laws.{GoesToGoals}
use Rattle.goal_lists.proofs.Laws.{unassigned_goals_are_left, goals_that_are_left_are_shaped}
use Rattle.goal_lists.proofs.Leaving.{All-parts}
use Rattle.lf_functions.specs.Instances.{goals_depth, instance_of_goal}
use Rattle.lf_functions.proofs.MentionLaws.{instances_are_among_any_goals}
use Rattle.opening_laws.proofs.Numbers.{found_shape}
use Rattle.applications.specs.Methods.{LfCandidate}
use Rattle.applications.specs.Applications.{LfApplication, goals_left}
use Rattle.application_laws.specs.Conditions.{MayBeUsed, IsLeftOrNew, new_goals, HasItsSupport}
use Rattle.application_laws.proofs.Members.{IsIn, in_left, in_right, in_either, contains_in, in_contained, goal_is_in, in_below, instance_id, among_only}
use Rattle.application_laws.proofs.Counted.{IsCounted}
use Rattle.completion_laws.proofs.LeftGoals.{leaves_goals_left, left_shape}
use Rattle.completion_laws.proofs.Scopes.{term_elsewhere, grows_by_numbers, goes_from}
use Rattle.alternatives.specs.ListsAfter.{with_new, left_in, list_after, fresh_after}
use Rattle.alternatives.specs.Steps.{IsStep}
use Rattle.step_laws.proofs.Among.{keys_among, none_other}
use Rattle.step_laws.proofs.Numbers.{all_below_above, number_in, next_number, All-grouped, All-regrouped}
use Rattle.step_laws.proofs.Found.{shapes_grow, scope_grows, goals_left-append, HoldsWhereLeft, All-goals_left, numbers_left, same_goal}
use Rattle.step_laws.proofs.Completed.{Entries, Result, Rest, support, found_rest, with_shaped, old_found, put_closed, term_put_shaped, keys_differ}

module _ (sig : LfSignature) (of_sig : ShapedSignature sig) (list : LfGoals) (shaped : ShapedGoals sig (all_goals list)) (n : ℕ) (below : All (λ h. h.id < n) (all_goals list))
    (g : LfGoal) (is_first : first_goal list ≡ Some g) (c : LfCandidate) (may : MayBeUsed sig (all_goals list) n g c) (a : LfApplication) (x : IsCounted sig n (all_goals list) g c a) where
  abbrev Before : List LfGoal
  Before = all_goals list

  abbrev Made : LfApplication
  Made = Result sig of_sig list shaped n below g is_first c may a x

  abbrev σ : Assignment
  σ = assignment_of Made.assigned

  abbrev All_with : List LfGoal
  All_with = all_goals (with_new list Made)

  abbrev Remaining : List LfGoal
  Remaining = all_goals (left_in (with_new list Made) σ)

  abbrev New : List LfGoal
  New = new_goals Made

  has_support : HasItsSupport Before n g Made
  has_support = support sig of_sig list shaped n below g is_first c may a x

  all_shaped : ShapedGoals sig All_with
  all_shaped = with_shaped sig of_sig list shaped n below g is_first c may a x

  -- Both parts are what is left of the whole.
  remaining_is : goals_left All_with σ All_with ≡ Remaining
  remaining_is = goals_left-append All_with σ (Made.proofs ++ list.proofs) (list.witnesses ++ Made.witnesses)

  -- Old goals are among all.
  old_within : (m : ℕ) → IsIn m (ids Before) → IsIn m (ids All_with)
  old_within m is = each (in_either m list.proofs list.witnesses is)
    where
      each : IsIn m (ids list.proofs) ⊎ IsIn m (ids list.witnesses) → IsIn m (ids All_with)
      each (inl p) = in_left m (Made.proofs ++ list.proofs) (list.witnesses ++ Made.witnesses) (in_right m Made.proofs list.proofs p)
      each (inr p) = in_right m (Made.proofs ++ list.proofs) (list.witnesses ++ Made.witnesses) (in_left m list.witnesses Made.witnesses p)

  new_within : (m : ℕ) → IsIn m (ids New) → IsIn m (ids All_with)
  new_within m is = each (in_either m Made.proofs Made.witnesses is)
    where
      each : IsIn m (ids Made.proofs) ⊎ IsIn m (ids Made.witnesses) → IsIn m (ids All_with)
      each (inl p) = in_left m (Made.proofs ++ list.proofs) (list.witnesses ++ Made.witnesses) (in_left m Made.proofs list.proofs p)
      each (inr p) = in_right m (Made.proofs ++ list.proofs) (list.witnesses ++ Made.witnesses) (in_right m list.witnesses Made.witnesses p)

  -- New goals have no entry.
  new_stays : (m : ℕ) → IsIn m (ids New) → σ m ≡ None
  new_stays m is = step (σ m) refl
    where
      step : (o : Option LfTerm) → σ m ≡ o → o ≡ None
      step None e = refl
      step (Some u) e =
          let low = in_below m n Before below (among_only (ids Before) (Entries sig of_sig list shaped n below g is_first c may a x) m u e) in
          let high = number_in (λ k. n ≤ k) New has_support.new_numbers m is in
          absurd (omega (arith, low, high))

  left_or_new_stays : (m : ℕ) → IsLeftOrNew Before Made m → σ m ≡ None
  left_or_new_stays m (inl both) = both.1
  left_or_new_stays m (inr has) = new_stays m (in_contained m (ids New) has)

  -- A number without an entry has the shape that it had.
  known_after : (m : ℕ) (s : SimpleType) → found_shape All_with m ≡ Some s → σ m ≡ None → found_shape Remaining m ≡ Some s
  known_after m s known none =
      ap (λ xs. found_shape xs m) (sym remaining_is ∙ sym (append-nil (goals_left All_with σ All_with)))
      ∙ left_shape All_with σ All_with [] m none
      ∙ ap (λ xs. found_shape xs m) (append-nil All_with)
      ∙ known

  put_after : (m : ℕ) (s : SimpleType) (u : LfTerm) → found_shape All_with m ≡ Some s → σ m ≡ Some u → Shaped (scope_in sig Remaining []) u s
  put_after m s u known found =
      let rest = Rest sig of_sig list shaped n below g is_first c may a x in
      term_elsewhere (term_put_shaped sig of_sig list shaped n below g is_first c may a x m s u known found) (scope_in sig Remaining [])
      (grows_by_numbers sig rest Remaining (λ h. OccursIn h u)
      (λ k r o e. known_after k r (shapes_grow rest All_with (found_rest sig of_sig list shaped n below g is_first c may a x) k r e) (left_or_new_stays k (has_support.bodies_mention m u found k o))))

  goes : GoesToGoals sig All_with Remaining σ
  goes = (goals_depth All_with, goes_from sig All_with Remaining σ put_after known_after)

  goes_from_before : GoesToGoals sig Before Remaining σ
  goes_from_before = (goes.0, λ h s e. goes.1 h s (scope_grows sig Before All_with (old_found sig of_sig list shaped n below g is_first c may a x) h s e))

  leaves : Leaves σ All_with Remaining
  leaves = subst (Leaves σ All_with) remaining_is (leaves_goals_left sig All_with Remaining σ goes All_with all_shaped.1)

  remaining_shaped : ShapedGoals sig Remaining
  remaining_shaped =
      let parts = All-parts (ShapedGoal sig All_with) (Made.proofs ++ list.proofs) (list.witnesses ++ Made.witnesses) all_shaped.1 in
      goals_that_are_left_are_shaped sig (with_new list Made) (left_in (with_new list Made) σ) σ all_shaped goes
      (record {
        of_proofs = leaves_goals_left sig All_with Remaining σ goes (Made.proofs ++ list.proofs) parts.0;
        of_witnesses = leaves_goals_left sig All_with Remaining σ goes (list.witnesses ++ Made.witnesses) parts.1;
      })

  stays_or_not : (m : ℕ) → Contains (ids Before) m → (σ m ≡ None) ↔ Contains (ids Remaining) m
  stays_or_not m has =
      let left = unassigned_goals_are_left All_with Remaining σ leaves m in
      (λ none. left.1 (contains_in m (ids All_with) (old_within m (in_contained m (ids Before) has)), none), λ there. (left.0 there).1)

  -- What is left of a goal is its instance among the goals of before.
  left_under : (old h : LfGoal) → Contains Before old → Contains Remaining h → h.id ≡ old.id → h ≡ instance_of_goal Before σ old
  left_under old h has there = All-contains IsIt Remaining h (subst (All IsIt) remaining_is (All-goals_left IsIt All_with σ All_with each)) there
    where
      IsIt : LfGoal → Type 0
      IsIt k = k.id ≡ old.id → k ≡ instance_of_goal Before σ old

      with_old : Contains All_with old
      with_old = All-contains (Contains All_with) Before old (All-regrouped (Contains All_with) Made.proofs list.proofs list.witnesses Made.witnesses (All-contains_itself All_with)).1 has

      same : instance_of_goal All_with σ old ≡ instance_of_goal Before σ old
      same =
          (instances_are_among_any_goals sig sig Before All_with [] [] σ (goes_from_before.0, scope_in sig Remaining [], goes_from_before.1) (goes.0, scope_in sig Remaining [], goes.1)).5 old
          (All-contains (ShapedGoal sig Before) Before old shaped.1 has) (All-contains (ShapedGoal sig All_with) All_with old all_shaped.1 with_old)

      each : All (HoldsWhereLeft IsIt All_with σ) All_with
      each =
          All-weaker (λ k. k.id ≡ old.id → k ≡ old) (HoldsWhereLeft IsIt All_with σ)
          (λ k is none e. ap (instance_of_goal All_with σ) (is (sym (instance_id All_with σ k) ∙ e)) ∙ same) All_with (same_goal All_with all_shaped.0 old with_old)

  -- numbers
  numbers_after : (P : ℕ → Type 0) → All (λ h. P h.id) New → All (λ h. P h.id) Before → All (λ h. P h.id) Remaining
  numbers_after P new old =
      subst (All (λ h. P h.id)) remaining_is (numbers_left P All_with σ All_with (All-grouped (λ h. P h.id) Made.proofs list.proofs list.witnesses Made.witnesses new old))

  below_fresh : All (λ h. h.id < fresh_after n Made) Remaining
  below_fresh =
      let left = le-max_left n (above (ids New)) in
      let right = le-max_right n (above (ids New)) in
      numbers_after (λ k. k < fresh_after n Made)
      (All-weaker (λ h. h.id < above (ids New)) (λ h. h.id < fresh_after n Made) (λ h less. omega (arith, less, right)) New (all_below_above New))
      (All-weaker (λ h. h.id < n) (λ h. h.id < fresh_after n Made) (λ h less. omega (arith, less, left)) Before below)

  new_remain : All (λ h. IsIn h.id (ids Remaining)) New
  new_remain = All-weaker (Contains New) (λ h. IsIn h.id (ids Remaining)) each New (All-contains_itself New)
    where
      each : (h : LfGoal) → Contains New h → IsIn h.id (ids Remaining)
      each h has =
          let is = goal_is_in New h has in
          in_contained h.id (ids Remaining) ((unassigned_goals_are_left All_with Remaining σ leaves h.id).1 (contains_in h.id (ids All_with) (new_within h.id is), new_stays h.id is))

  old_or_new : All (λ h. Contains (ids Before) h.id ⊎ (n ≤ h.id)) Remaining
  old_or_new =
      numbers_after (λ k. Contains (ids Before) k ⊎ (n ≤ k)) (All-weaker (λ h. n ≤ h.id) (λ h. Contains (ids Before) h.id ⊎ (n ≤ h.id)) (λ h most. inr most) New has_support.new_numbers)
      (All-weaker (Contains Before) (λ h. Contains (ids Before) h.id ⊎ (n ≤ h.id)) (λ h has. inl (contains_in h.id (ids Before) (goal_is_in Before h has))) Before (All-contains_itself Before))

  made_step : IsStep sig n list Made
  unfolding list_after
  made_step = record {
    may_be_taken = record { shaped = all_shaped; closed = closed; goes = goes };
    takes = record {
      shaped = remaining_shaped;
      closed = closed;
      goes = goes_from_before;
      keys = keys_among (ids Before) (Entries sig of_sig list shaped n below g is_first c may a x);
      keys_differ = keys_differ sig of_sig list shaped n below g is_first c may a x;
      assigned_or_left = stays_or_not;
      left_under = left_under;
    };
    below = below_fresh;
    next = λ some. next_number n New Remaining some has_support.new_numbers new_remain below_fresh;
    old_or_new = old_or_new;
    assigns_first = λ first is. subst (λ k. (u : LfTerm) × (σ k.id ≡ Some u)) (Some_inj is_first is) has_support.assigns_goal;
    assigns_no_other = λ none first is. subst (λ k. All (λ e. e.assigned_goal ≡ k.id) Made.assigned) (Some_inj is_first is) (none_other g.id Made.assigned none);
  }
    where
      closed : AssignsClosedTerms σ
      closed = put_closed sig of_sig list shaped n below g is_first c may a x

  pub step : IsStep sig n list a
  step = subst (IsStep sig n list) (sym x.is) made_step
