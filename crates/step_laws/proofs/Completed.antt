-- The goals with the new ones of an application, among which its assignment is shaped.
use Rattle.std.proofs.Common.{◌≡◌, ◌≢◌, ℕ, ◌<◌, true, Option, Some, None, List, [], ◌∷◌, ◌++◌, map, All, AllPairs, refl, sym, ap, ◌∙◌, subst}
use Rattle.std.specs.Prelude.{not, if◌then◌else◌, Contains}
use Rattle.std.proofs.lemmas.Bool.{eq-eqb}
use Rattle.std.proofs.lemmas.List.Elements.{All-nil, All-cons, All-append, All-weaker, All-contains, All-map}
use Rattle.std.proofs.lemmas.List.Kept.{AllPairs-cons}
use Rattle.head_laws.proofs.Numbers.{Contains-here}
use Rattle.lf_definitions.specs.Syntax.{metavariable, LfTerm, SimpleType, shapes_of_types}
use Rattle.lf_definitions.specs.Shaping.{Scope, Shaped}
use Rattle.lf_definitions.specs.Occurrence.{OccursIn}
use Rattle.lf_definitions.specs.Replacements.{Fits, fits_becomes}
use Rattle.lf_definitions.specs.ShapedGoals.{ShapedSignature, scope_in, ShapedGoal, ShapedGoals}
use Rattle.lf_definitions.specs.Typing.{LfGoal}
use Rattle.lf_definitions.specs.Signatures.{LfSignature, constant_types}
use Rattle.lf_definitions.specs.GoalLists.{LfGoals, all_goals, ids, first_of, first_goal, AreDistinct}
use Rattle.lf_definitions.specs.Instantiation.{Assignment, LfAssigned, assignment_of, assigned}
use Rattle.lf_definitions.proofs.Options.{Some-Some, Some_inj}
use Rattle.head_laws.specs.AssignmentLaws.{AssignsClosedTerms}
use Rattle.goal_lists.proofs.Leaving.{All-parts}
use Rattle.unification.specs.Solutions.{IsResolvedAnswer}
use Rattle.unification.specs.Equations.{numbered_from}
use Rattle.lf_functions.proofs.EndingLaws.{unifiers_are_answers}
use Rattle.opening_laws.proofs.Numbers.{more_goals}
use Rattle.applications.specs.Methods.{LfCandidate, Outcome, closes, adds}
use Rattle.applications.specs.Applications.{LfApplication, freezing, entry_of, put_into, goals_left, fresh_left}
use Rattle.applications.proofs.Pairs.{AllPairs-map}
use Rattle.application_laws.specs.Conditions.{MayBeUsed, new_goals, HasItsSupport}
use Rattle.application_laws.proofs.Members.{IsIn, goal_is_in, All-fresh_left, among_same, among_only}
use Rattle.application_laws.proofs.Counted.{application_with, IsCounted}
use Rattle.application_laws.proofs.Support.{supported}
use Rattle.completion_laws.specs.Laws.{IsUnified, whole_of, left_of, goal_besides, IsTestedBesides}
use Rattle.completion_laws.proofs.Besides.{completions_are_tested_besides}
use Rattle.completion_laws.proofs.Itself.{nothing_mentions_itself}
use Rattle.alternatives.specs.ListsAfter.{with_new}
use Rattle.step_laws.proofs.Among.{AllPairs-entries_among}
use Rattle.step_laws.proofs.Numbers.{All-grouped, All-regrouped, around}
use Rattle.step_laws.proofs.Found.{IsFoundIn, found_each, instance_found, in_is_found, shapes_grow, goal_grown, HoldsWhereLeft, All-goals_left, All-from_goals_left, All-from_fresh_left}

pub first_is_one : (goals : List LfGoal) (g : LfGoal) → first_of goals ≡ Some g → Contains goals g
first_is_one [] g e = absurd cc
first_is_one (h ∷ rest) g e = subst (Contains (h ∷ rest)) (Some-Some e) (Contains-here h rest)

-- The goal is frozen, whatever the outcome.
frozen_goal : (goals : List LfGoal) (g : LfGoal) → Contains goals g → (o : Outcome) → freezing o goals g g.id ≡ true
frozen_goal goals g one_of closes = eq-eqb g.id g.id refl
frozen_goal goals g one_of (adds kept) = goal_is_in goals g one_of

-- What is put for a metavariable has its shape.
put_shaped : (Δ : Scope) (p m : ℕ) (s : SimpleType) (u : LfTerm) (o : Option LfTerm) → o ≡ Some u → Fits Δ p (assigned m o) s → Shaped Δ u s
put_shaped Δ p m s u None e fits = absurd cc
put_shaped Δ p m s u (Some v) e (fits_becomes shaped small) = subst (λ t. Shaped Δ t s) (Some-Some e) shaped

module _ (sig : LfSignature) (of_sig : ShapedSignature sig) (list : LfGoals) (shaped : ShapedGoals sig (all_goals list)) (n : ℕ) (below : All (λ h. h.id < n) (all_goals list))
    (g : LfGoal) (is_first : first_goal list ≡ Some g) (c : LfCandidate) (may : MayBeUsed sig (all_goals list) n g c) (a : LfApplication) (x : IsCounted sig n (all_goals list) g c a) where
  abbrev pub Old : List LfGoal
  Old = all_goals list

  abbrev Everything : List LfGoal
  Everything = Old ++ c.opened.fresh

  abbrev pub Entries : List LfAssigned
  Entries = whole_of Old g c x.entries x.done

  abbrev Whole : Assignment
  Whole = assignment_of Entries

  abbrev pub Result : LfApplication
  Result = application_with Old g c x.entries x.done

  abbrev pub Put : Assignment
  Put = assignment_of Result.assigned

  abbrev pub With : List LfGoal
  With = all_goals (with_new list Result)

  abbrev Beside : LfGoal
  Beside = goal_besides Old g c x.entries x.done

  abbrev pub Rest : List LfGoal
  Rest = left_of Old g c x.entries x.done ++ Beside ∷ []

  pub one_of : Contains Old g
  one_of = first_is_one Old g is_first

  unified : IsUnified sig Old n g c x.entries
  unified = record { of_signature = of_sig; of_goals = shaped; below = below; one_of = one_of; may_be_used = may; solves = x.solves }

  pub support : HasItsSupport Old n g Result
  support = subst (HasItsSupport Old n g) x.is (supported sig Old shaped n below g one_of c may a x)

  not_itself : OccursIn (metavariable g.id) x.done.becomes_term → ⊥
  not_itself o = clash (sym (ap (λ b. if b then Some Result else None) x.are_typed) ∙ nothing_mentions_itself sig Old n g c x.entries unified x.done x.completes o)
    where
      clash : {y : LfApplication} → Some y ≡ None → ⊥
      clash f = absurd cc

  pub tested : IsTestedBesides sig Old g c x.entries x.done
  tested = completions_are_tested_besides sig Old n g c x.entries unified x.done x.completes not_itself

  -- The goals with the new ones have different numbers, by which each is found.
  pub with_distinct : AreDistinct With
  with_distinct = around n Result.proofs list.proofs list.witnesses Result.witnesses support.new_numbers_differ shaped.0 support.new_numbers below

  found_parts : All (IsFoundIn With) (new_goals Result) × All (IsFoundIn With) Old
  found_parts = All-regrouped (IsFoundIn With) Result.proofs list.proofs list.witnesses Result.witnesses (found_each sig With with_distinct)

  abbrev Left_proofs : List LfGoal
  Left_proofs = fresh_left (λ mark. mark) Everything Whole c.opened.fresh c.are_proofs

  -- So is each goal that is left, and the goal besides.
  pub found_rest : All (IsFoundIn With) Rest
  found_rest =
      let new = All-parts (IsFoundIn With) Result.proofs Result.witnesses found_parts.0 in
      let proofs = All-parts (IsFoundIn With) Left_proofs x.done.more new.0 in
      All-append (IsFoundIn With) (left_of Old g c x.entries x.done) (Beside ∷ [])
      (All-append (IsFoundIn With) (goals_left Everything Whole Everything) x.done.more
      (All-goals_left (IsFoundIn With) Everything Whole Everything
      (All-append (HoldsWhereLeft (IsFoundIn With) Everything Whole) Old c.opened.fresh
      (All-weaker (IsFoundIn With) (HoldsWhereLeft (IsFoundIn With) Everything Whole) (λ h found none. instance_found With Everything Whole h found) Old found_parts.1)
      (All-from_fresh_left (IsFoundIn With) Everything Whole c.opened.fresh c.are_proofs may.have_marks proofs.0 new.1)))
      proofs.1)
      (All-cons (IsFoundIn With) Beside [] (instance_found With Everything (assignment_of (map (put_into Everything (entry_of g x.done.becomes_term)) x.entries)) g found_goal) (All-nil (IsFoundIn With)))
    where
      found_goal : IsFoundIn With g
      found_goal = All-contains (IsFoundIn With) Old g found_parts.1 one_of

  -- The new goals are shaped among what is left, and so among all.
  new_shaped : All (ShapedGoal sig With) (new_goals Result)
  new_shaped =
      let shaped_rest = All-weaker (ShapedGoal sig Rest) (ShapedGoal sig With) (goal_grown sig Rest With found_rest) Rest tested.shaped.1 in
      let left = All-parts (ShapedGoal sig With) (goals_left Everything Whole Everything) x.done.more (All-parts (ShapedGoal sig With) (left_of Old g c x.entries x.done) (Beside ∷ []) shaped_rest).0 in
      let fresh = (All-parts (HoldsWhereLeft (ShapedGoal sig With) Everything Whole) Old c.opened.fresh (All-from_goals_left (ShapedGoal sig With) Everything Whole Everything left.0)).1 in
      All-append (ShapedGoal sig With) Result.proofs Result.witnesses
      (All-append (ShapedGoal sig With) Left_proofs x.done.more (All-fresh_left (ShapedGoal sig With) (λ mark. mark) Everything Whole c.opened.fresh c.are_proofs fresh) left.1)
      (All-fresh_left (ShapedGoal sig With) not Everything Whole c.opened.fresh c.are_proofs fresh)

  pub with_shaped : ShapedGoals sig With
  with_shaped = (
    with_distinct,
    All-grouped (ShapedGoal sig With) Result.proofs list.proofs list.witnesses Result.witnesses new_shaped
        (All-weaker (ShapedGoal sig Old) (ShapedGoal sig With) (goal_grown sig Old With found_parts.1) Old shaped.1),
  )

  pub old_found : All (IsFoundIn With) Old
  old_found = found_parts.1

  -- The entries of old goals are those of the whole assignment.
  pub whole_put : (m : ℕ) (u : LfTerm) → Put m ≡ Some u → IsIn m (ids Old) × (Whole m ≡ Some u)
  whole_put m u found = let is = among_only (ids Old) Entries m u found in (is, sym (among_same (ids Old) Entries m is) ∙ found)

  pub put_closed : AssignsClosedTerms Put
  put_closed m k u e o = tested.closed m k u (whole_put m u e).1 o

  -- They put terms of the goals' shapes, among what is left.
  pub term_put_shaped : (m : ℕ) (s : SimpleType) (u : LfTerm) → scope_in sig With [] (metavariable m) ≡ Some s → Put m ≡ Some u → Shaped (scope_in sig Rest []) u s
  term_put_shaped m s u known found =
      let whole = whole_put m u found in
      let before = in_is_found Old m whole.0 in
      let same = Some_inj (shapes_grow Old With old_found m before.0 before.1) known in
      subst (Shaped (scope_in sig Rest []) u) same
      (put_shaped (scope_in sig Rest []) tested.goes.0 m before.0 u (Whole m) whole.1
      (tested.goes.1 (metavariable m) before.0 (more_goals (shapes_of_types (constant_types sig)) Old c.opened.fresh [] (metavariable m) before.0 before.1)))

  -- No two entries are of one goal.
  pub keys_differ : AllPairs (λ (e : LfAssigned) f. e.assigned_goal ≢ f.assigned_goal) Result.assigned
  keys_differ =
      AllPairs-entries_among Differ (ids Old) Entries
      (AllPairs-cons Differ own (map put x.entries)
      (All-map (Differ own) put x.entries (All-weaker (λ e. freezing c.outcome Old g e.assigned_goal ≡ true → ⊥) (λ e. Differ own (put e)) (λ e free same. free (subst (λ k. freezing c.outcome Old g k ≡ true) same (frozen_goal Old g one_of c.outcome))) x.entries answer.of_unfrozen))
      (AllPairs-map Differ Differ put (λ e f differ. differ) x.entries answer.each_once))
    where
      Differ : LfAssigned → LfAssigned → Type 0
      Differ e f = e.assigned_goal ≢ f.assigned_goal

      own : LfAssigned
      own = entry_of g x.done.becomes_term

      put : LfAssigned → LfAssigned
      put = put_into Everything own

      answer : IsResolvedAnswer (scope_in sig Everything g.context) (freezing c.outcome Old g) (numbered_from 0 c.equations) x.entries
      answer = unifiers_are_answers sig Everything g.context (freezing c.outcome Old g) c.equations x.entries may.equations_are_shaped x.solves
