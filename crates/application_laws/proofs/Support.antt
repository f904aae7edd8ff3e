-- Applications have their support.
use Rattle.std.proofs.Common.{◌≡◌, ◌≢◌, ◌⊎◌, inl, inr, ℕ, zero, suc, ◌+◌, ◌<◌, Bool, true, false, Option, Some, None, List, [], ◌∷◌, map, All, length, refl, sym, ap, ◌∙◌, subst, arith}
use Rattle.std.specs.Prelude.{nat_eq, not, ◌&&◌, is_some, if◌then◌else◌, Contains}
use Rattle.std.specs.List.{list_all}
use Rattle.std.proofs.lemmas.Bool.{eqb-true, eq-eqb}
use Rattle.std.proofs.lemmas.List.Elements.{All-nil, All-cons, All-append, All-contains, All-weaker}
use Rattle.lf_definitions.specs.Syntax.{metavariable, LfTerm, lams, atomic}
use Rattle.lf_definitions.specs.Occurrence.{OccursIn, occurs_lam, OccursInType, OccursInGoal}
use Rattle.lf_definitions.specs.ShapedGoals.{scope_in, ShapedGoals}
use Rattle.lf_definitions.specs.Typing.{LfGoal, goal_type}
use Rattle.lf_definitions.specs.Signatures.{LfSignature}
use Rattle.lf_definitions.specs.GoalLists.{ids, AreDistinct}
use Rattle.lf_definitions.specs.Instantiation.{Assignment, assignment_of}
use Rattle.unification.specs.Equations.{numbered_from}
use Rattle.unification.specs.Solutions.{MentionedBy, IsResolvedAnswer}
use Rattle.unification.specs.Transitions.{Frozen}
use Rattle.unifiers.proofs.Entries.{found_entry}
use Rattle.lf_functions.specs.Instances.{instance_of_goal, instance_of_atom}
use Rattle.lf_functions.specs.MentionLaws.{StaysOrIsPut}
use Rattle.lf_functions.proofs.InstanceLaws.{instances_go_part_by_part}
use Rattle.lf_functions.proofs.MentionLaws.{instances_mention_what_is_put}
use Rattle.lf_functions.proofs.CheckingLaws.{has_type_knows_what_occurs}
use Rattle.lf_functions.proofs.EndingLaws.{unifiers_are_answers}
use Rattle.goal_lists.proofs.Leaving.{All-parts}
use Rattle.goal_lists.proofs.Laws.{shaped_goals_mention_no_others}
use Rattle.opening_laws.proofs.Numbers.{Numbered}
use Rattle.applications.specs.Methods.{LfCandidate}
use Rattle.applications.specs.Candidates.{candidates}
use Rattle.applications.specs.Applications.{LfApplication, freezing, goal_with, entry_of, put_into, goals_left, fresh_left, applications_to}
use Rattle.application_laws.specs.Conditions.{IsMentionedOrFresh, MayBeUsed, IsLeftOrNew, new_goals, HasItsSupport}
use Rattle.application_laws.specs.Laws.{ApplicationsHaveTheirSupport}
use Rattle.application_laws.proofs.Lists.{no_pairs}
use Rattle.application_laws.proofs.Members.{IsIn, in_left, in_right, in_either, in_cases, contains_in, in_contained, goal_is_in, in_below, typed_is_in, left_is_in, IsNewIn, fresh_is_new, All-fresh_left, tested_entry, among_same, among_only, put_keeps, numbered_from_places, between_is_in}
use Rattle.application_laws.proofs.NewNumbers.{new_are_new, new_differ}
use Rattle.application_laws.proofs.Counted.{all_with, whole_with, left_with, application_with, IsCounted, is_counted, All-of_candidates, AddsOne, none_or_one}
use Rattle.application_laws.proofs.GoalMentions.{goal_with_mentions}
use Rattle.application_laws.proofs.Laws.{candidates_may_be_used}

out_of_lams : (m count : ℕ) (t : LfTerm) → OccursIn (metavariable m) (lams count t) → OccursIn (metavariable m) t
out_of_lams m zero t o = o
out_of_lams m (suc count) t (occurs_lam _ _ o) = out_of_lams m count t o

assigned_not_none : (o : Option LfTerm) → is_some o ≡ true → o ≡ None → ⊥
assigned_not_none None e f = absurd cc
assigned_not_none (Some u) e f = absurd cc

nothing_assigned : {u : LfTerm} → None ≡ Some u → ⊥
nothing_assigned e = absurd cc

all_assigned : (σ : Assignment) (fresh : List LfGoal) (m : ℕ) → list_all (λ f. is_some (σ f.id)) fresh ≡ true → IsIn m (ids fresh) → σ m ≡ None → ⊥
all_assigned σ [] m e is none = absurd cc
all_assigned σ (h ∷ rest) m e is none = step (in_cases m h.id (ids rest) is) (both (is_some (σ h.id)) (list_all (λ f. is_some (σ f.id)) rest) e) (λ f there. all_assigned σ rest m f there none)
  where
    both : (a b : Bool) → a && b ≡ true → (a ≡ true) × (b ≡ true)
    both true b f = (refl, f)
    both false b f = absurd cc

    step : (m ≡ h.id) ⊎ IsIn m (ids rest) → (is_some (σ h.id) ≡ true) × (list_all (λ f. is_some (σ f.id)) rest ≡ true) → (list_all (λ f. is_some (σ f.id)) rest ≡ true → IsIn m (ids rest) → ⊥) → ⊥
    step (inl same) parts later = assigned_not_none (σ h.id) parts.0 (ap σ (sym same) ∙ none)
    step (inr there) parts later = later parts.1 there

module _ (sig : LfSignature) (goals : List LfGoal) (shaped : ShapedGoals sig goals) (n : ℕ) (below : All (λ h. h.id < n) goals) (g : LfGoal) (one_of : Contains goals g) (c : LfCandidate) (may : MayBeUsed sig goals n g c)
    (a : LfApplication) (x : IsCounted sig n goals g c a) where
  abbrev Everything : List LfGoal
  Everything = all_with goals c

  abbrev σ : Assignment
  σ = assignment_of (whole_with goals g c x.entries x.done)

  abbrev Remaining : List LfGoal
  Remaining = left_with goals g c x.entries x.done

  abbrev Result : LfApplication
  Result = application_with goals g c x.entries x.done

  abbrev Freezes : Frozen
  Freezes = freezing c.outcome goals g

  answer : IsResolvedAnswer (scope_in sig Everything g.context) Freezes (numbered_from 0 c.equations) x.entries
  answer = unifiers_are_answers sig Everything g.context Freezes c.equations x.entries may.equations_are_shaped x.solves

  numbered : Numbered n c.opened.fresh
  numbered = numbered_from_places n c.opened.fresh may.fresh_are_numbered

  -- the goal's mentions are goals
  closed_at : (m : ℕ) → OccursInGoal (metavariable m) g → IsIn m (ids goals)
  closed_at m o = in_contained m (ids goals) (All-contains (λ h. (k : ℕ) → OccursInGoal (metavariable k) h → Contains (ids goals) k) goals g (shaped_goals_mention_no_others sig goals shaped) one_of m o)

  is_somewhere : (m : ℕ) → IsMentionedOrFresh g n (n + length c.opened.fresh) m → IsIn m (ids Everything)
  is_somewhere m (inl o) = in_left m goals c.opened.fresh (closed_at m o)
  is_somewhere m (inr between) = in_right m goals c.opened.fresh (between_is_in n c.opened.fresh numbered m between.0 between.1)

  -- What the unifier assigns is mentioned by the equations, and so is what it puts, which it does not assign.
  abbrev IsFromEquations : ℕ → LfTerm → Type 0
  IsFromEquations k u =
      MentionedBy (numbered_from 0 c.equations) k × (Freezes k ≡ true → ⊥)
      × ((m : ℕ) → OccursIn (metavariable m) u → MentionedBy (numbered_from 0 c.equations) m × (assignment_of x.entries m ≡ None))

  unified : (k : ℕ) (u : LfTerm) → assignment_of x.entries k ≡ Some u → IsFromEquations k u
  unified k u found =
      found_entry IsFromEquations x.entries
      (λ i d less. (
        answer.of_mentioned i d less,
        answer.of_unfrozen i d less,
        λ m o. let inside = out_of_lams m _ _ o in (answer.mentions i d less m inside, answer.resolved i d less m inside),
      )) k u found

  key_cases : (k : ℕ) (u : LfTerm) → σ k ≡ Some u → (k ≡ g.id) ⊎ ((v : LfTerm) × (assignment_of x.entries k ≡ Some v))
  key_cases k u found = step (nat_eq g.id k) refl found
    where
      step : (b : Bool) → nat_eq g.id k ≡ b →
          (if b then Some (lams (length g.context) x.done.becomes_term) else assignment_of (map (put_into Everything (entry_of g x.done.becomes_term)) x.entries) k) ≡ Some u →
          (k ≡ g.id) ⊎ ((v : LfTerm) × (assignment_of x.entries k ≡ Some v))
      step true same f = inl (sym (eqb-true g.id k same))
      step false same f = inr (put_keeps Everything (entry_of g x.done.becomes_term) x.entries k u f)

  goal_has_entry : σ g.id ≡ Some (lams (length g.context) x.done.becomes_term)
  goal_has_entry = ap (λ b. if b then Some (lams (length g.context) x.done.becomes_term) else assignment_of (map (put_into Everything (entry_of g x.done.becomes_term)) x.entries) g.id) (eq-eqb g.id g.id refl)

  key_is_somewhere : (k : ℕ) (u : LfTerm) → σ k ≡ Some u → IsIn k (ids Everything)
  key_is_somewhere k u found = each (key_cases k u found)
    where
      each : (k ≡ g.id) ⊎ ((v : LfTerm) × (assignment_of x.entries k ≡ Some v)) → IsIn k (ids Everything)
      each (inl same) = subst (λ j. IsIn j (ids Everything)) (sym same) (in_left g.id goals c.opened.fresh (goal_is_in goals g one_of))
      each (inr (v, f)) = is_somewhere k (may.equations_mention k (unified k v f).0)

  -- what has no entry is left or new
  without_entry : (m : ℕ) → IsIn m (ids Everything) → σ m ≡ None → IsLeftOrNew goals Result m
  without_entry m is none = each (in_either m goals c.opened.fresh is)
    where
      new : IsNewIn Everything σ c.opened.fresh c.are_proofs m → IsIn m (ids (new_goals Result))
      new (inl p) = in_left m Result.proofs Result.witnesses (in_left m (fresh_left (λ mark. mark) Everything σ c.opened.fresh c.are_proofs) x.done.more p)
      new (inr p) = in_right m Result.proofs Result.witnesses p

      each : IsIn m (ids goals) ⊎ IsIn m (ids c.opened.fresh) → IsLeftOrNew goals Result m
      each (inl p) = inl (contains_in m (ids goals) p, among_same (ids goals) (whole_with goals g c x.entries x.done) m p ∙ none)
      each (inr p) = inr (contains_in m (ids (new_goals Result)) (new (fresh_is_new Everything σ c.opened.fresh c.are_proofs may.have_marks m p none)))

  remaining : (m : ℕ) → IsIn m (ids Remaining) → IsLeftOrNew goals Result m
  remaining m is = each (in_either m (goals_left Everything σ Everything) x.done.more is)
    where
      each : IsIn m (ids (goals_left Everything σ Everything)) ⊎ IsIn m (ids x.done.more) → IsLeftOrNew goals Result m
      each (inl p) = let r = left_is_in Everything σ Everything m p in without_entry m r.0 r.1
      each (inr p) =
          inr (contains_in m (ids (new_goals Result)) (in_left m Result.proofs Result.witnesses (in_right m (fresh_left (λ mark. mark) Everything σ c.opened.fresh c.are_proofs) x.done.more p)))

  body_mentions : (k : ℕ) (u : LfTerm) → σ k ≡ Some u → (m : ℕ) → OccursIn (metavariable m) u → IsLeftOrNew goals Result m
  body_mentions k u found m o =
      let tested = tested_entry sig Everything σ Remaining Everything x.are_typed k u (key_is_somewhere k u found) found in
      let known = has_type_knows_what_occurs sig Remaining [] u (goal_type (instance_of_goal Everything σ tested.0)) tested.1 m o in
      remaining m (typed_is_in Remaining m known.0 known.1)

  abbrev MayMention : LfGoal → Type 0
  MayMention h = (m : ℕ) → OccursInGoal (metavariable m) h → IsLeftOrNew goals Result m ⊎ ((m ≡ g.id) × OccursInGoal (metavariable m) g)

  fresh_mention_left : All (λ h. σ h.id ≡ None → MayMention (instance_of_goal Everything σ h)) c.opened.fresh
  fresh_mention_left =
      All-weaker (λ h. (k : ℕ) → OccursInGoal (metavariable k) h → Contains (ids Everything) k) (λ h. σ h.id ≡ None → MayMention (instance_of_goal Everything σ h)) each c.opened.fresh
      (All-parts (λ h. (k : ℕ) → OccursInGoal (metavariable k) h → Contains (ids Everything) k) goals c.opened.fresh (shaped_goals_mention_no_others sig Everything may.goals_are_shaped)).1
    where
      each : (h : LfGoal) → ((k : ℕ) → OccursInGoal (metavariable k) h → Contains (ids Everything) k) → σ h.id ≡ None → MayMention (instance_of_goal Everything σ h)
      each h closed none m o = inl (step ((instances_mention_what_is_put Everything σ m).4 h o))
        where
          step : StaysOrIsPut σ (λ k. OccursInGoal (metavariable k) h) m → IsLeftOrNew goals Result m
          step (inl (p, free)) = without_entry m (in_contained m (ids Everything) (closed m p)) free
          step (inr (k, u, p, found, inside)) = body_mentions k u found m inside

  -- A new goal has the goal's mentions and those of the new hypothesis, which are the goal's.
  of_goal : AddsOne n Everything g c (assignment_of x.entries) x.done → (m : ℕ) → OccursInGoal (metavariable m) g → IsLeftOrNew goals Result m ⊎ ((m ≡ g.id) × OccursInGoal (metavariable m) g)
  of_goal one m o = step (σ m) refl
    where
      frozen : Freezes m ≡ true
      frozen = ap (λ out. freezing out goals g m) one.outcome_is ∙ closed_at m o

      step : (v : Option LfTerm) → σ m ≡ v → IsLeftOrNew goals Result m ⊎ ((m ≡ g.id) × OccursInGoal (metavariable m) g)
      step None none = inl (without_entry m (in_left m goals c.opened.fresh (closed_at m o)) none)
      step (Some u) found = either (key_cases m u found)
        where
          either : (m ≡ g.id) ⊎ ((v : LfTerm) × (assignment_of x.entries m ≡ Some v)) → IsLeftOrNew goals Result m ⊎ ((m ≡ g.id) × OccursInGoal (metavariable m) g)
          either (inl same) = inr (same, o)
          either (inr (v, f)) = absurd ((unified m v f).1 frozen)

  of_goal_or_fresh : AddsOne n Everything g c (assignment_of x.entries) x.done → (m : ℕ) → assignment_of x.entries m ≡ None → IsMentionedOrFresh g n (n + length c.opened.fresh) m →
      IsLeftOrNew goals Result m ⊎ ((m ≡ g.id) × OccursInGoal (metavariable m) g)
  of_goal_or_fresh one m none (inl o) = of_goal one m o
  of_goal_or_fresh one m none (inr between) = absurd (all_assigned (assignment_of x.entries) c.opened.fresh m one.all_assigned (between_is_in n c.opened.fresh numbered m between.0 between.1) none)

  of_fact : AddsOne n Everything g c (assignment_of x.entries) x.done → (m : ℕ) → OccursInType (metavariable m) (atomic (instance_of_atom Everything (assignment_of x.entries) c.opened.end)) →
      IsLeftOrNew goals Result m ⊎ ((m ≡ g.id) × OccursInGoal (metavariable m) g)
  of_fact one m o =
      let parts = instances_go_part_by_part Everything (assignment_of x.entries) in
      step ((instances_mention_what_is_put Everything (assignment_of x.entries) m).2 (atomic c.opened.end) (subst (OccursInType (metavariable m)) (parts.3 c.opened.end) o))
    where
      step : StaysOrIsPut (assignment_of x.entries) (λ k. OccursInType (metavariable k) (atomic c.opened.end)) m → IsLeftOrNew goals Result m ⊎ ((m ≡ g.id) × OccursInGoal (metavariable m) g)
      step (inl (p, none)) = of_goal_or_fresh one m none (may.end_mentions m p)
      step (inr (k, u, p, found, inside)) = let from = (unified k u found).2 m inside in of_goal_or_fresh one m from.1 (may.equations_mention m from.0)

  more_mention : All MayMention x.done.more
  more_mention = each (none_or_one n Everything g c (assignment_of x.entries) x.done c.outcome refl x.completes)
    where
      each : (x.done.more ≡ []) ⊎ AddsOne n Everything g c (assignment_of x.entries) x.done → All MayMention x.done.more
      each (inl none) = subst (All MayMention) (sym none) (All-nil MayMention)
      each (inr one) =
          let fact = instance_of_atom Everything (assignment_of x.entries) c.opened.end in
          subst (All MayMention) (sym one.more_is) (All-cons MayMention (goal_with (n + length c.opened.fresh) g one.kept fact) []
          (λ m o. either one m (goal_with_mentions (n + length c.opened.fresh) g one.kept fact m o)) (All-nil MayMention))
        where
          either : AddsOne n Everything g c (assignment_of x.entries) x.done → (m : ℕ) →
              OccursInGoal (metavariable m) g ⊎ OccursInType (metavariable m) (atomic (instance_of_atom Everything (assignment_of x.entries) c.opened.end)) →
              IsLeftOrNew goals Result m ⊎ ((m ≡ g.id) × OccursInGoal (metavariable m) g)
          either one m (inl p) = of_goal one m p
          either one m (inr p) = of_fact one m p

  few_more : AreDistinct x.done.more × All (λ h. h.id ≡ n + length c.opened.fresh) x.done.more
  few_more = each (none_or_one n Everything g c (assignment_of x.entries) x.done c.outcome refl x.completes)
    where
      each : (x.done.more ≡ []) ⊎ AddsOne n Everything g c (assignment_of x.entries) x.done → AreDistinct x.done.more × All (λ h. h.id ≡ n + length c.opened.fresh) x.done.more
      each (inl none) = subst (λ more. AreDistinct more × All (λ h. h.id ≡ n + length c.opened.fresh) more) (sym none) (no_pairs (λ h k. h.id ≢ k.id), All-nil (λ h. h.id ≡ n + length c.opened.fresh))
      each (inr one) =
          let it = goal_with (n + length c.opened.fresh) g one.kept (instance_of_atom Everything (assignment_of x.entries) c.opened.end) in
          subst (λ more. AreDistinct more × All (λ h. h.id ≡ n + length c.opened.fresh) more) (sym one.more_is)
          (single it, All-cons (λ h. h.id ≡ n + length c.opened.fresh) it [] refl (All-nil (λ h. h.id ≡ n + length c.opened.fresh)))
        where
          single : (h : LfGoal) → AreDistinct (h ∷ [])
          single h i j d less within = absurd (omega (arith, less, within))

  has_support : HasItsSupport goals n g Result
  has_support = record {
    assigns_goal = (lams (length g.context) x.done.becomes_term, among_same (ids goals) (whole_with goals g c x.entries x.done) g.id (goal_is_in goals g one_of) ∙ goal_has_entry);
    keys_are_mentioned = λ k u found. let is = among_only (ids goals) (whole_with goals g c x.entries x.done) k u found in
        (contains_in k (ids goals) is, key k is (key_cases k u (sym (among_same (ids goals) (whole_with goals g c x.entries x.done) k is) ∙ found)));
    bodies_mention = λ k u found. let is = among_only (ids goals) (whole_with goals g c x.entries x.done) k u found in
        body_mentions k u (sym (among_same (ids goals) (whole_with goals g c x.entries x.done) k is) ∙ found);
    new_goals_mention = All-append MayMention Result.proofs Result.witnesses
        (All-append MayMention (fresh_left (λ mark. mark) Everything σ c.opened.fresh c.are_proofs) x.done.more (All-fresh_left MayMention (λ mark. mark) Everything σ c.opened.fresh c.are_proofs fresh_mention_left) more_mention)
        (All-fresh_left MayMention not Everything σ c.opened.fresh c.are_proofs fresh_mention_left);
    new_numbers = new_are_new Everything σ n c.opened.fresh numbered c.are_proofs x.done.more few_more.0 few_more.1;
    new_numbers_differ = new_differ Everything σ n c.opened.fresh numbered c.are_proofs x.done.more few_more.0 few_more.1;
  }
    where
      key : (k : ℕ) → IsIn k (ids goals) → (k ≡ g.id) ⊎ ((v : LfTerm) × (assignment_of x.entries k ≡ Some v)) → (k ≡ g.id) ⊎ OccursInGoal (metavariable k) g
      key k is (inl same) = inl same
      key k is (inr (v, f)) = old (may.equations_mention k (unified k v f).0)
        where
          old : IsMentionedOrFresh g n (n + length c.opened.fresh) k → (k ≡ g.id) ⊎ OccursInGoal (metavariable k) g
          old (inl o) = inr o
          old (inr between) = let low = between.0 in let high = in_below k n goals below is in absurd (omega (arith, low, high))

  pub supported : HasItsSupport goals n g a
  supported = subst (HasItsSupport goals n g) (sym x.is) has_support

pub applications_have_their_support : ApplicationsHaveTheirSupport
unfolding applications_to
applications_have_their_support sig shaped_sig goals shaped n below g one_of rule method takes =
    All-of_candidates (HasItsSupport goals n g) (MayBeUsed sig goals n g) sig n goals g (λ c may a e. supported sig goals shaped n below g one_of c may a (is_counted sig n goals g c a e))
    (candidates sig rule method g n) (candidates_may_be_used sig shaped_sig goals shaped n below g one_of rule method takes)
