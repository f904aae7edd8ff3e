-- Lists that begin apart, and lists that stay apart: what is inside is a shaped list by itself, and what is outside is as it was.
use Rattle.std.proofs.Common.{◌≡◌, ℕ, ◌<◌, Bool, true, List, All, sym, ap, ◌∙◌, subst}
use Rattle.std.specs.Prelude.{not, slice_index_or, Contains}
use Rattle.std.proofs.lemmas.List.Elements.{All-contains, All-weaker}
use Rattle.lf_definitions.specs.Syntax.{metavariable}
use Rattle.lf_definitions.specs.ShapedGoals.{ShapedGoals}
use Rattle.lf_definitions.specs.Occurrence.{OccursInGoal}
use Rattle.lf_definitions.specs.Typing.{LfGoal}
use Rattle.lf_definitions.specs.Signatures.{LfSignature}
use Rattle.lf_definitions.specs.GoalLists.{LfGoals, all_goals, ids}
use Rattle.goal_lists.proofs.Laws.{shaped_goals_mention_no_others}
use Rattle.application_laws.specs.Conditions.{inside, goals_inside, BeginsInside}
use Rattle.application_laws.proofs.Inside.{All-inside, contains_inside, goals_inside_are_shaped}
use Rattle.alternatives.specs.Rules.{LfRule}
use Rattle.alternatives.specs.Reaching.{MayBeExpanded}
use Rattle.clusters.specs.Links.{outside_of}
use Rattle.framed_alternatives.specs.Laws.{with_fresh, BeginsApart, StaysApart}
use Rattle.framed_alternatives.proofs.Insides.{below_same, all_contained, number_passes, all-inside, passes_inside, contained_inside}

-- A metavariable that a goal of a shaped list mentions is one of its goals.
known_number : (sig : LfSignature) (goals : List LfGoal) → ShapedGoals sig goals → (h : LfGoal) → Contains goals h → (m : ℕ) → OccursInGoal (metavariable m) h → Contains (ids goals) m
known_number sig goals shaped h has =
    All-contains (λ g. (m : ℕ) → OccursInGoal (metavariable m) g → Contains (ids goals) m) goals h (shaped_goals_mention_no_others sig goals shaped) has

module _ (sig : LfSignature) (rules : List LfRule) (n : ℕ) (within : ℕ → Bool) (list : LfGoals) (begins : BeginsApart sig rules n within list) where
  pub begins_inside : BeginsInside sig n within list
  begins_inside = record {
    goals_are_shaped = begins.may_be_expanded.goals;
    numbers_are_below = begins.may_be_expanded.below;
    mention_inside = begins.splits.0;
    first_is_inside = begins.first_is_inside;
  }

  -- The goals inside may be expanded by themselves.
  pub may_be_expanded_inside : MayBeExpanded sig rules n (goals_inside within list)
  may_be_expanded_inside =
      let may = begins.may_be_expanded in
      record {
        signature = may.signature;
        goals = subst (ShapedGoals sig) (sym (all-inside within list)) (goals_inside_are_shaped sig (all_goals list) within may.goals begins.splits.0);
        below =
            subst (All (λ h. h.id < n)) (sym (all-inside within list))
            (All-inside within (λ h. h.id < n) (all_goals list) (All-weaker (λ h. h.id < n) (λ h. within h.id ≡ true → h.id < n) (λ h less is. less) (all_goals list) may.below));
        rules_take_atoms = may.rules_take_atoms;
      }

  module _ (after inner : LfGoals) (shaped : ShapedGoals sig (all_goals inner)) (is_inner : goals_inside (with_fresh within n) after ≡ inner)
      (outside : goals_inside (outside_of (with_fresh within n)) after ≡ goals_inside (outside_of within) list) where
    inside_list : inside (with_fresh within n) (all_goals after) ≡ all_goals inner
    inside_list = sym (all-inside (with_fresh within n) after) ∙ ap all_goals is_inner

    outside_list : inside (outside_of (with_fresh within n)) (all_goals after) ≡ inside (outside_of within) (all_goals list)
    outside_list = sym (all-inside (outside_of (with_fresh within n)) after) ∙ ap all_goals outside ∙ all-inside (outside_of within) list

    mention_inside : (h : LfGoal) → Contains (all_goals after) h → with_fresh within n h.id ≡ true → (m : ℕ) → OccursInGoal (metavariable m) h → with_fresh within n m ≡ true
    mention_inside h has is m o =
        let there = subst (λ xs. Contains xs h) inside_list (contains_inside (with_fresh within n) (all_goals after) h has is) in
        number_passes (λ k. with_fresh within n k ≡ true) (all_goals inner) (subst (All (λ x. with_fresh within n x.id ≡ true)) inside_list (passes_inside (with_fresh within n) (all_goals after)))
        m (known_number sig (all_goals inner) shaped h there m o)

    mention_outside : (h : LfGoal) → Contains (all_goals after) h → outside_of (with_fresh within n) h.id ≡ true → (m : ℕ) → OccursInGoal (metavariable m) h → outside_of (with_fresh within n) m ≡ true
    mention_outside h has is m o =
        let may = begins.may_be_expanded in
        let there = contained_inside (outside_of within) (all_goals list) h (subst (λ xs. Contains xs h) outside_list (contains_inside (outside_of (with_fresh within n)) (all_goals after) h has is)) in
        let less = number_passes (λ k. k < n) (all_goals list) may.below m (known_number sig (all_goals list) may.goals h there.0 m o) in
        ap not (below_same within n m less)
        ∙ All-contains (λ x. outside_of within x.id ≡ true → (k : ℕ) → OccursInGoal (metavariable k) x → outside_of within k ≡ true) (all_goals list) h begins.splits.1 there.0 there.1 m o

    pub stays_apart : StaysApart n within list after
    stays_apart = record {
      splits = (
        (λ k d less. mention_inside (slice_index_or (all_goals after) k d) (all_contained (all_goals after) k d less)),
        (λ k d less. mention_outside (slice_index_or (all_goals after) k d) (all_contained (all_goals after) k d less)),
      );
      outside = outside;
    }
