-- The numbers of lists that follow one another: those that are not old are above all that were there before.
use Rattle.std.proofs.Common.{◌⊎◌, inl, inr, ℕ, ◌<◌, ◌≤◌, All, subst, arith}
use Rattle.std.specs.Prelude.{Contains}
use Rattle.std.proofs.lemmas.List.Elements.{All-contains, All-weaker}
use Rattle.lf_definitions.specs.Typing.{LfGoal}
use Rattle.lf_definitions.specs.GoalLists.{LfGoals, all_goals, ids}
use Rattle.application_laws.proofs.Members.{in_contained, in_below}
use Rattle.alternatives.specs.Steps.{AreOldOrNew}
use Rattle.build_laws.specs.Laws.{NoneComesBack}
use Rattle.build_laws.proofs.Entries.{goal_of_number}

number_was : (before after : LfGoals) (n : ℕ) → AreOldOrNew before n after → (k : ℕ) → Contains (ids (all_goals after)) k → Contains (ids (all_goals before)) k ⊎ (n ≤ k)
number_was before after n known k is =
    let g = goal_of_number (all_goals after) k (in_contained k (ids (all_goals after)) is) in
    subst (λ j. Contains (ids (all_goals before)) j ⊎ (n ≤ j)) g.2 (All-contains (λ h. Contains (ids (all_goals before)) h.id ⊎ (n ≤ h.id)) (all_goals after) g.0 known g.1)

module _ (list between after : LfGoals) (n m : ℕ) (rises : n ≤ m) (middle : AreOldOrNew list n between) (last : AreOldOrNew between m after) where
  pub no_number_back : All (λ h. h.id < n) (all_goals list) → NoneComesBack list between after
  no_number_back below k is there = either (number_was between after m last k there)
    where
      either : Contains (ids (all_goals between)) k ⊎ (m ≤ k) → Contains (ids (all_goals between)) k
      either (inl old) = old
      either (inr new) = let less = in_below k n (all_goals list) below (in_contained k (ids (all_goals list)) is) in absurd (omega (arith, rises, new, less))

  pub old_or_new_on : AreOldOrNew list n after
  old_or_new_on = All-weaker (λ h. Contains (ids (all_goals between)) h.id ⊎ (m ≤ h.id)) (λ h. Contains (ids (all_goals list)) h.id ⊎ (n ≤ h.id)) each (all_goals after) last
    where
      each : (h : LfGoal) → Contains (ids (all_goals between)) h.id ⊎ (m ≤ h.id) → Contains (ids (all_goals list)) h.id ⊎ (n ≤ h.id)
      each h (inl old) = number_was list between n middle h.id old
      each h (inr new) = inr (omega (arith, rises, new))
