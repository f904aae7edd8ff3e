-- Each application to the first goal of a well-formed list keeps types.
use Rattle.std.proofs.Common.{◌≡◌, ℕ, ◌<◌, Option, Some, None, List, [], ◌++◌, All, refl, sym, subst}
use Rattle.std.specs.Prelude.{not, Contains}
use Rattle.std.proofs.lemmas.List.Elements.{All-nil, All-cons, All-append, All-weaker, All-contains, All-contains_itself}
use Rattle.lf_definitions.specs.ShapedGoals.{scope_in, ShapedGoal}
use Rattle.lf_definitions.specs.Typing.{LfGoal}
use Rattle.lf_definitions.specs.Signatures.{LfSignature, FormedSignature}
use Rattle.lf_definitions.specs.GoalLists.{LfGoals, all_goals, first_goal, FormedGoal, FormedGoals}
use Rattle.lf_definitions.specs.Instantiation.{InstantiatedGoal}
use Rattle.lf_definitions.proofs.ShapedGoals.{ShapedSignature-FormedSignature}
use Rattle.typing_laws.proofs.ClosedTypes.{ShapedGoals-FormedGoals}
use Rattle.typing_laws.proofs.Instantiation.{instantiations_keep_what_is_formed}
use Rattle.goal_lists.proofs.Leaving.{All-parts}
use Rattle.lf_functions.specs.Instances.{instance_of_goal}
use Rattle.lf_functions.proofs.Results.{instances_are_the_one_result}
use Rattle.applications.specs.Methods.{LfCandidate, Outcome, closes, adds}
use Rattle.applications.specs.Candidates.{candidates}
use Rattle.applications.specs.Applications.{LfApplication, goals_left, fresh_left, applications_to, at_first}
use Rattle.application_laws.specs.Conditions.{TakesAtoms, MayBeUsed}
use Rattle.application_laws.proofs.Counted.{is_counted, All-of_candidates}
use Rattle.application_laws.proofs.Laws.{candidates_may_be_used}
use Rattle.application_laws.proofs.Members.{All-fresh_left}
use Rattle.alternatives.specs.Rules.{LfRule, found_by}
use Rattle.alternatives.specs.ListsAfter.{list_after}
use Rattle.step_laws.proofs.Completed.{first_is_one}
use Rattle.step_laws.proofs.Found.{HoldsWhereLeft, All-goals_left}
use Rattle.typed_steps.specs.Laws.{KeepsTypes, ApplicationsKeepTypes}
use Rattle.typed_steps.proofs.Offers.{OpensHead, heads_are_opened}
use Rattle.typed_steps.proofs.Situations.{IsMade, is_step}
use Rattle.typed_steps.proofs.Remaining.{Old, Everything, Whole, Put, After, With, shaped_after, fresh_once}
use Rattle.typed_steps.proofs.Closing.{BodiesAreTyped, takes_goals}
use Rattle.typed_steps.proofs.ClosedGoals.{closing_typed, nothing_more, fresh_goals_formed}
use Rattle.typed_steps.proofs.Added.{Added, more_is}
use Rattle.typed_steps.proofs.Adding.{adding_typed}
use Rattle.typed_steps.proofs.AddedGoals.{new_goal_formed, fresh_assigned}

module _ (sig : LfSignature) (list : LfGoals) (n : ℕ) (g : LfGoal) (c : LfCandidate) (a : LfApplication) (m : IsMade sig list n g c a) where
  abbrev Before : List LfGoal
  Before = Old sig list n g c a m

  abbrev Later : List LfGoal
  Later = After sig list n g c a m

  abbrev Between : List LfGoal
  Between = With sig list n g c a m

  abbrev Proofs : List LfGoal
  Proofs = fresh_left (λ mark. mark) (Everything sig list n g c a m) (Whole sig list n g c a m) c.opened.fresh c.are_proofs

  abbrev Witnesses : List LfGoal
  Witnesses = fresh_left not (Everything sig list n g c a m) (Whole sig list n g c a m) c.opened.fresh c.are_proofs

  -- What is left of a goal is well formed.
  abbrev IsFormedLeft : LfGoal → Type 0
  IsFormedLeft = HoldsWhereLeft (FormedGoal sig Later) Between (Put sig list n g c a m)

  abbrev FreshAreFormed : Type 0
  FreshAreFormed = All (λ f. Whole sig list n g c a m f.id ≡ None → IsFormedLeft (instance_of_goal (Everything sig list n g c a m) (Whole sig list n g c a m) f)) c.opened.fresh

  -- What is to be shown, by the outcome.
  record Succeeds : Type 0 where
    pub bodies : BodiesAreTyped sig list n g c a m
    pub fresh : FreshAreFormed
    pub more : All IsFormedLeft m.counted.done.more

  closing_succeeds : c.outcome ≡ closes → Succeeds
  closing_succeeds is = record {
    bodies = closing_typed sig list n g c a m is;
    fresh = λ i d less none left. subst (FormedGoal sig Later) (sym (fresh_once sig list n g c a m _ (All-contains_itself c.opened.fresh i d less))) (fresh_goals_formed sig list n g c a m is i d less);
    more = subst (All IsFormedLeft) (sym (nothing_more sig list n g c a m is)) (All-nil IsFormedLeft);
  }

  adding_succeeds : (kept : List ℕ) → c.outcome ≡ adds kept → Succeeds
  adding_succeeds kept is = record {
    bodies = adding_typed sig list n g c a m kept is;
    fresh = λ i d less none. absurd (fresh_assigned sig list n g c a m kept is i d less none);
    more = subst (All IsFormedLeft) (more_is sig list n g c a m kept is)
        (All-cons IsFormedLeft (Added sig list n g c a m kept is) [] (λ none. new_goal_formed sig list n g c a m kept is) (All-nil IsFormedLeft));
  }

  succeeds : (o : Outcome) → c.outcome ≡ o → Succeeds
  succeeds closes is = closing_succeeds is
  succeeds (adds kept) is = adding_succeeds kept is

  it : Succeeds
  it = succeeds c.outcome refl

  new_formed : All IsFormedLeft a.proofs × All IsFormedLeft a.witnesses
  new_formed = (
    subst (λ y. All IsFormedLeft y.proofs) (sym m.counted.is)
        (All-append IsFormedLeft Proofs m.counted.done.more
        (All-fresh_left IsFormedLeft (λ mark. mark) (Everything sig list n g c a m) (Whole sig list n g c a m) c.opened.fresh c.are_proofs it.fresh) it.more),
    subst (λ y. All IsFormedLeft y.witnesses) (sym m.counted.is)
        (All-fresh_left IsFormedLeft not (Everything sig list n g c a m) (Whole sig list n g c a m) c.opened.fresh c.are_proofs it.fresh),
  )

  with_instance : (h : LfGoal) → ShapedGoal sig Between h → InstantiatedGoal (Put sig list n g c a m) h (instance_of_goal Between (Put sig list n g c a m) h)
  with_instance h shaped =
      let goes = (is_step sig list n g c a m).may_be_taken.goes in
      let one = (instances_are_the_one_result sig Between [] goes.0 (scope_in sig Later []) (Put sig list n g c a m) goes.1).5 h shaped in
      (one.0 (instance_of_goal Between (Put sig list n g c a m) h)).1 refl

  old_formed : (h : LfGoal) → Contains Before h → ShapedGoal sig Between h → IsFormedLeft h
  old_formed h has shaped none =
      (instantiations_keep_what_is_formed sig Before Later (Put sig list n g c a m) (takes_goals sig list n g c a m it.bodies)).1 h (instance_of_goal Between (Put sig list n g c a m) h)
      (All-contains (FormedGoal sig Before) Before h m.goals.1 has) (with_instance h shaped)

  all_old : All IsFormedLeft list.proofs × All IsFormedLeft list.witnesses
  all_old =
      let P = ShapedGoal sig Between in
      let parts = All-parts P (a.proofs ++ list.proofs) (list.witnesses ++ a.witnesses) (is_step sig list n g c a m).may_be_taken.shaped.1 in
      let proofs = (All-parts P a.proofs list.proofs parts.0).1 in
      let witnesses = (All-parts P list.witnesses a.witnesses parts.1).0 in
      let has = All-parts (Contains Before) list.proofs list.witnesses (All-contains_itself Before) in (
        λ i d less. old_formed _ (has.0 i d less) (proofs i d less),
        λ i d less. old_formed _ (has.1 i d less) (witnesses i d less),
      )

  all_formed : All (FormedGoal sig Later) Later
  unfolding list_after
  all_formed =
      let P = FormedGoal sig Later in
      let put = Put sig list n g c a m in
      All-append P (goals_left Between put (a.proofs ++ list.proofs)) (goals_left Between put (list.witnesses ++ a.witnesses))
      (All-goals_left P Between put (a.proofs ++ list.proofs) (All-append IsFormedLeft a.proofs list.proofs new_formed.0 all_old.0))
      (All-goals_left P Between put (list.witnesses ++ a.witnesses) (All-append IsFormedLeft list.witnesses a.witnesses all_old.1 new_formed.1))

  made_keeps_types : KeepsTypes sig list (list_after list a) a.assigned
  made_keeps_types = record { formed = ((shaped_after sig list n g c a m).0, all_formed); takes_goals = takes_goals sig list n g c a m it.bodies }

module _ (sig : LfSignature) (of_sig : FormedSignature sig) (list : LfGoals) (formed : FormedGoals sig (all_goals list)) (n : ℕ) (below : All (λ h. h.id < n) (all_goals list))
    (rule : LfRule) (takes : TakesAtoms sig rule.method) where
  abbrev Keeps : LfApplication → Type 0
  Keeps a = KeepsTypes sig list (list_after list a) a.assigned

  abbrev IsKnown : LfGoal → LfCandidate → Type 0
  IsKnown g c = MayBeUsed sig (all_goals list) n g c × OpensHead sig (all_goals list) n g c

  to_goal : (g : LfGoal) → first_goal list ≡ Some g → All Keeps (applications_to sig rule.number rule.method n (all_goals list) g)
  unfolding applications_to
  to_goal g is_first =
      let goals = all_goals list in
      let shaped = ShapedGoals-FormedGoals sig goals formed in
      let shaped_sig = ShapedSignature-FormedSignature sig of_sig in
      let has = first_is_one goals g is_first in
      let used = candidates_may_be_used sig shaped_sig goals shaped n below g has rule.number rule.method takes in
      let opened = heads_are_opened sig shaped_sig goals shaped n below g has rule.number rule.method takes in
      All-of_candidates Keeps (IsKnown g) sig n goals g
      (λ c known a e. made_keeps_types sig list n g c a
      (record { signature = of_sig; goals = formed; below = below; is_first = is_first; may_be_used = known.0; opens = known.1; counted = is_counted sig n goals g c a e }))
      (candidates sig rule.number rule.method g n) (λ i d less. (used i d less, opened i d less))

  found_keep_types : (o : Option LfGoal) → first_goal list ≡ o → All Keeps (at_first sig rule.number rule.method n (all_goals list) o)
  found_keep_types None none = All-nil Keeps
  found_keep_types (Some g) is_first = to_goal g is_first

pub applications_keep_types : ApplicationsKeepTypes
applications_keep_types sig rules n list may =
    All-weaker (λ rule. TakesAtoms sig rule.method) (λ rule. All (λ (a : LfApplication). KeepsTypes sig list (list_after list a) a.assigned) (found_by sig n list rule))
    (λ rule atoms. found_keep_types sig may.signature list may.goals n may.below rule atoms (first_goal list) refl) rules may.rules_take_atoms
