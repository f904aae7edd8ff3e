-- The later entries: no number is that of an earlier one, those of goals that were there before are those below the first fresh number, and they have the shapes of their goals' contexts.
use Rattle.std.proofs.Common.{◌≡◌, ◌≢◌, ◌⊎◌, inl, inr, ℕ, ◌<◌, ◌≤◌, Bool, true, false, Some, List, ◌++◌, map, All, refl, sym, ap, ap₂, ◌∙◌, subst, arith, slice_get, option_map}
use Rattle.std.specs.Prelude.{Contains, nat_eq, nat_lt}
use Rattle.std.specs.List.{list_any}
use Rattle.std.proofs.lemmas.Bool.{lt-ltb, le-ltb}
use Rattle.std.proofs.lemmas.List.{map-append}
use Rattle.std.proofs.lemmas.Option.{slice_get-map}
use Rattle.std.proofs.lemmas.List.Elements.{All-map, All-append, All-contains, All-contains_itself, All-weaker}
use Rattle.lf_definitions.specs.Syntax.{shapes_of_types}
use Rattle.lf_definitions.specs.Typing.{LfGoal}
use Rattle.lf_definitions.specs.GoalLists.{all_goals, ids}
use Rattle.lf_definitions.specs.Instantiation.{LfAssigned}
use Rattle.lf_definitions.proofs.Options.{None-Some}
use Rattle.goal_lists.proofs.Leaving.{AllPairs-append}
use Rattle.lf_functions.proofs.InstanceLaws.{instances_go_part_by_part, instances_keep_shapes}
use Rattle.applications.proofs.Pairs.{AllPairs-map}
use Rattle.application_laws.proofs.Members.{in_contained, in_below}
use Rattle.alternatives.specs.ListsAfter.{then_assigned}
use Rattle.meta_goals.specs.Bindings.{LfBinding, assigned_of, assigning}
use Rattle.meta_goals.specs.Laws.{HaveShapesOf}
use Rattle.meta_goals.proofs.LeftGoals.{is_assigned}
use Rattle.build_shared.specs.Whole.{bindings_below}
use Rattle.build_shared.proofs.BindingLists.{HaveDifferentNumbers, All-at, All-from_places, All-below}
use Rattle.build_shared.proofs.Composing.{entries_below}
use Rattle.build_shared.proofs.UnifierEnds.{numbers_differ}
use Rattle.goal_advance.specs.Following.{MayFollow, put_later}
use Rattle.goal_advance.proofs.EarlierEntries.{goal_numbered, later_put, earlier_differ, key_is_before, is_found}

-- A number is below another where it is one of some that are, if all others are not.
number_test : (goals : List LfGoal) (n m : ℕ) → All (λ g. g.id < n) goals → Contains (ids goals) m ⊎ (n ≤ m) → nat_lt m n ≡ list_any (nat_eq m) (ids goals)
number_test goals n m below (inl there) = let is = in_contained m (ids goals) there in lt-ltb m n (in_below m n goals below is) ∙ sym is
number_test goals n m below (inr more) = le-ltb m n more ∙ absent (list_any (nat_eq m) (ids goals)) refl
  where
    absent : (b : Bool) → list_any (nat_eq m) (ids goals) ≡ b → false ≡ b
    absent true e = let small = in_below m n goals below e in absurd (omega (arith, small, more))
    absent false e = refl

module _ (n : ℕ) (earlier later : List LfBinding) (m : MayFollow n earlier later) where
  abbrev Before : List LfGoal
  Before = all_goals m.before

  abbrev Between : List LfGoal
  Between = all_goals m.between

  key_is_between : (i : ℕ) (b : LfBinding) → slice_get later i ≡ Some b → Contains (ids Between) b.number
  key_is_between i b there =
      All-at (λ e. Contains (ids Between) e.assigned_goal) (map assigned_of later) i (assigned_of b) m.takes_later.keys (slice_get-map assigned_of later i ∙ ap (option_map assigned_of) there)

  keys_are_between : All (λ (b : LfBinding). Contains (ids Between) b.number) later
  keys_are_between = All-from_places (λ (b : LfBinding). Contains (ids Between) b.number) later key_is_between

  -- numbers
  apart : All (λ (b : LfBinding). All (λ (d : LfBinding). b.number ≢ d.number) later) earlier
  apart = All-from_places (λ (b : LfBinding). All (λ (d : LfBinding). b.number ≢ d.number) later) earlier each
    where
      each : (i : ℕ) (b : LfBinding) → slice_get earlier i ≡ Some b → All (λ (d : LfBinding). b.number ≢ d.number) later
      each i b there =
          All-weaker (λ (d : LfBinding). Contains (ids Between) d.number) (λ (d : LfBinding). b.number ≢ d.number)
          (λ d between same.
          None-Some ((m.takes_earlier.assigned_or_left b.number (key_is_before n earlier later m i b there)).1 (subst (Contains (ids Between)) (sym same) between))
          (is_assigned earlier b.number b (is_found n earlier later m i b there))) later keys_are_between

  all_differ : HaveDifferentNumbers (map (put_later Between later) earlier ++ later)
  all_differ =
      AllPairs-append (λ (b : LfBinding) d. b.number ≢ d.number) (map (put_later Between later) earlier) later
      (AllPairs-map (λ (b : LfBinding) d. b.number ≢ d.number) (λ (b : LfBinding) d. b.number ≢ d.number) (put_later Between later) (λ b d differ. differ) earlier (earlier_differ n earlier later m))
      (numbers_differ later m.takes_later.keys_differ)
      (All-map (λ (b : LfBinding). All (λ (d : LfBinding). b.number ≢ d.number) later) (put_later Between later) earlier apart)

  pub may_be_added : (all : List LfBinding) → all ≡ map (put_later Between later) earlier → HaveDifferentNumbers (all ++ later)
  may_be_added all is = subst (λ l. HaveDifferentNumbers (l ++ later)) (sym is) all_differ

  -- the entries of goals that were there before
  tests : All (λ (b : LfBinding). nat_lt b.number n ≡ list_any (nat_eq b.number) (ids Before)) later
  tests =
      All-weaker (λ (b : LfBinding). Contains (ids Between) b.number) (λ (b : LfBinding). nat_lt b.number n ≡ list_any (nat_eq b.number) (ids Before)) (λ b between. number_test Before n b.number m.below (old_or_new b between))
      later keys_are_between
    where
      old_or_new : (b : LfBinding) → Contains (ids Between) b.number → Contains (ids Before) b.number ⊎ (n ≤ b.number)
      old_or_new b between =
          let g = goal_numbered Between b.number between in
          subst (λ k. Contains (ids Before) k ⊎ (n ≤ k)) g.2 (All-contains (λ h. Contains (ids Before) h.id ⊎ (n ≤ h.id)) Between g.0 m.old_or_new g.1)

  pub follows : (some all : List LfBinding) → some ≡ map (put_later Between later) earlier → all ≡ some ++ bindings_below n later →
      map assigned_of all ≡ then_assigned (ids Before) Between (map assigned_of earlier) (map assigned_of later)
  follows some all first both =
      ap (map assigned_of) (both ∙ ap (λ l. l ++ bindings_below n later) first) ∙ map-append assigned_of (map (put_later Between later) earlier) (bindings_below n later)
      ∙ ap₂ (λ (k : List LfAssigned) l. k ++ l) (later_put Between later earlier) (entries_below n (ids Before) later tests)

  -- shapes
  abbrev FitsGoals : LfBinding → Type 0
  FitsGoals b = All (λ g. g.id ≡ b.number → b.shapes ≡ shapes_of_types g.context) Before

  later_fits : All FitsGoals later
  later_fits = All-from_places FitsGoals later each
    where
      each : (i : ℕ) (b : LfBinding) → slice_get later i ≡ Some b → FitsGoals b
      each i b there = All-weaker (Contains Before) (λ g. g.id ≡ b.number → b.shapes ≡ shapes_of_types g.context) at_goal Before (All-contains_itself Before)
        where
          at_goal : (g : LfGoal) → Contains Before g → g.id ≡ b.number → b.shapes ≡ shapes_of_types g.context
          at_goal g one_of same =
              let σ = assigning earlier in
              let left = goal_numbered Between b.number (key_is_between i b there) in
              let at_left = All-contains (λ h. h.id ≡ b.number → b.shapes ≡ shapes_of_types h.context) Between left.0
              (All-at (λ d. All (λ h. h.id ≡ d.number → d.shapes ≡ shapes_of_types h.context) Between) later i b m.later_shapes there) left.1 left.2 in
              at_left ∙ ap (λ (h : LfGoal). shapes_of_types h.context) (m.takes_earlier.left_under g left.0 one_of left.1 (left.2 ∙ sym same))
              ∙ ap shapes_of_types ((instances_go_part_by_part Before σ).5 g) ∙ (instances_keep_shapes Before σ).1 g.context

  pub all_fit : (some all : List LfBinding) → some ≡ map (put_later Between later) earlier → all ≡ some ++ bindings_below n later → HaveShapesOf Before all
  all_fit some all first both =
      subst (HaveShapesOf Before) (sym (both ∙ ap (λ l. l ++ bindings_below n later) first))
      (All-append FitsGoals (map (put_later Between later) earlier) (bindings_below n later) (All-map FitsGoals (put_later Between later) earlier m.earlier_shapes) (All-below FitsGoals n later later_fits))
