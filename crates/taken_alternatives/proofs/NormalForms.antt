-- Normal forms are reached.
use Rattle.std.proofs.Common.{◌≡◌, inl, ℕ, zero, suc, ◌<◌, ◌≤◌, Bool, true, false, Option, Some, None, List, All, refl, sym, subst, arith}
use Rattle.std.specs.Prelude.{if◌then◌else◌, filter, flat_map}
use Rattle.std.proofs.Math.Nat.{le-max_left, le-max_right}
use Rattle.std.proofs.lemmas.List.Elements.{All-weaker, All-filter}
use Rattle.lf_definitions.specs.Signatures.{LfSignature}
use Rattle.lf_definitions.specs.Typing.{LfGoal}
use Rattle.lf_definitions.specs.GoalLists.{LfGoals, all_goals, ids, above, first_goal, next_id}
use Rattle.applications.specs.Applications.{LfApplication}
use Rattle.application_laws.specs.Conditions.{TakesAtoms, new_goals}
use Rattle.application_laws.proofs.Members.{contains_in}
use Rattle.alternatives.specs.Rules.{LfRule, is_normalising, found_by}
use Rattle.alternatives.specs.ListsAfter.{list_after, fresh_after}
use Rattle.alternatives.specs.NormalForms.{has_none, is_lawful, first_lawful, LfNormal, stopped, after_step, step_or_stop, normal_within, most_normalising, normal_form}
use Rattle.alternatives.specs.Taking.{Takes}
use Rattle.alternatives.specs.Steps.{IsStep}
use Rattle.alternatives.specs.Reaching.{MayBeExpanded, IsReached}
use Rattle.step_laws.specs.Laws.{ApplicationsAreSteps}
use Rattle.build_laws.proofs.Laws.{assignments_follow, nothing_is_taken, nothing_follows}
use Rattle.taken_alternatives.specs.Laws.{NormalFormsAreReached}
use Rattle.taken_alternatives.proofs.Lists.{All-find, All-flat_map, own_numbers, some_goal, some_above, some_first}
use Rattle.taken_alternatives.proofs.Numbers.{no_number_back, old_or_new_on}

-- All applications of all rules are steps.
pub all_steps : ApplicationsAreSteps → (sig : LfSignature) (rules : List LfRule) (n : ℕ) (list : LfGoals) → MayBeExpanded sig rules n list → All (λ rule. All (IsStep sig n list) (found_by sig n list rule)) rules
all_steps steps sig rules n list may =
    All-weaker (λ rule. TakesAtoms sig rule.method) (λ rule. All (IsStep sig n list) (found_by sig n list rule)) (λ rule atoms. steps sig may.signature list may.goals n may.below rule atoms) rules may.rules_take_atoms

module _ (sig : LfSignature) (rules : List LfRule) (n : ℕ) (list : LfGoals) (may : MayBeExpanded sig rules n list) where
  stop_is_reached : IsReached sig n list (stopped false n list)
  stop_is_reached = record {
    takes = nothing_is_taken sig list may.goals;
    below = may.below;
    rises = omega arith;
    old_or_new = λ k d less. inl (contains_in _ (ids (all_goals list)) (own_numbers (all_goals list) k d less));
    next = λ closed is. is;
    has_first = λ closed g is. (g, is);
  }

  module _ (a : LfApplication) (step : IsStep sig n list a) where
    abbrev After : LfGoals
    After = list_after list a

    abbrev Next : ℕ
    Next = fresh_after n a

    may_after : MayBeExpanded sig rules Next After
    may_after = record { signature = may.signature; goals = step.takes.shaped; below = step.below; rules_take_atoms = may.rules_take_atoms }

    rises_once : n ≤ Next
    rises_once = le-max_left n (above (ids (new_goals a)))

    closed_is_reached : IsReached sig n list (after_step list a (stopped true Next After))
    closed_is_reached = record {
      takes = subst (Takes sig list After) (sym (nothing_follows.0 (ids (all_goals list)) (all_goals After) a.assigned)) step.takes;
      below = step.below;
      rises = rises_once;
      old_or_new = step.old_or_new;
      next = λ closed. absurd (clash closed);
      has_first = λ closed. absurd (clash closed);
    }
      where
        clash : true ≡ false → ⊥
        clash f = absurd cc

    module _ (rest : LfNormal) (has_new : has_none a.proofs ≡ false) (reached : IsReached sig Next After rest) where
      next_after : next_id After ≡ Next
      next_after = step.next (some_goal a.proofs a.witnesses has_new)

      first_after : (h : LfGoal) × (first_goal After ≡ Some h)
      first_after =
          let some : 0 < above (ids (new_goals a)) = some_above a.proofs a.witnesses has_new in
          let greater : above (ids (new_goals a)) ≤ Next = le-max_right n (above (ids (new_goals a))) in
          let less : 0 < Next = omega (arith, some, greater) in
          some_first (all_goals After) (subst (λ k. 0 < k) (sym next_after) less)

      onward_is_reached : IsReached sig n list (after_step list a rest)
      onward_is_reached = record {
        takes = (assignments_follow sig list After rest.goals a.assigned rest.build may.goals step.takes reached.takes
            (no_number_back list After rest.goals n Next rises_once step.old_or_new reached.old_or_new may.below)).0;
        below = reached.below;
        rises = let once = rises_once in let later = reached.rises in omega (arith, once, later);
        old_or_new = old_or_new_on list After rest.goals n Next rises_once step.old_or_new reached.old_or_new;
        next = λ closed is. reached.next closed (sym next_after);
        has_first = λ closed g is. reached.has_first closed first_after.0 first_after.1;
      }

  by_first : (onward : ℕ → LfGoals → LfNormal) → ((m : ℕ) (after : LfGoals) → MayBeExpanded sig rules m after → IsReached sig m after (onward m after)) → (o : Option LfApplication) →
      ((a : LfApplication) → o ≡ Some a → IsStep sig n list a) → IsReached sig n list (step_or_stop n list onward o)
  by_first onward reached None found = stop_is_reached
  by_first onward reached (Some a) found = each (has_none a.proofs) refl
    where
      each : (b : Bool) → has_none a.proofs ≡ b → IsReached sig n list (after_step list a (if b then stopped true (fresh_after n a) (list_after list a) else onward (fresh_after n a) (list_after list a)))
      each true e = closed_is_reached a (found a refl)
      each false e = onward_is_reached a (found a refl) (onward (fresh_after n a) (list_after list a)) e (reached (fresh_after n a) (list_after list a) (may_after a (found a refl)))

  first_is_step : ApplicationsAreSteps → (a : LfApplication) → first_lawful sig rules n list ≡ Some a → IsStep sig n list a
  first_is_step steps a e =
      let normalising = filter (λ rule. is_normalising rule.phase) rules in
      All-find (IsStep sig n list) is_lawful (flat_map (found_by sig n list) normalising)
      (All-flat_map (IsStep sig n list) (found_by sig n list) normalising
      (All-filter (λ rule. is_normalising rule.phase) (λ rule. All (IsStep sig n list) (found_by sig n list rule)) rules (all_steps steps sig rules n list may)))
      a e

within_is_reached : ApplicationsAreSteps → (sig : LfSignature) (rules : List LfRule) (most n : ℕ) (list : LfGoals) → MayBeExpanded sig rules n list → IsReached sig n list (normal_within most sig rules n list)
within_is_reached steps sig rules zero n list may = stop_is_reached sig rules n list may
within_is_reached steps sig rules (suc most) n list may =
    by_first sig rules n list may (normal_within most sig rules) (λ m after may_after. within_is_reached steps sig rules most m after may_after) (first_lawful sig rules n list) (first_is_step sig rules n list may steps)

form_is_reached : ApplicationsAreSteps → (sig : LfSignature) (rules : List LfRule) (n : ℕ) (list : LfGoals) → MayBeExpanded sig rules n list → IsReached sig n list (normal_form sig rules n list)
unfolding normal_form
form_is_reached steps sig rules n list may = within_is_reached steps sig rules most_normalising n list may

pub normal_forms_are_reached : ApplicationsAreSteps → NormalFormsAreReached
normal_forms_are_reached steps sig rules n list may = (λ most. within_is_reached steps sig rules most n list may, form_is_reached steps sig rules n list may)
