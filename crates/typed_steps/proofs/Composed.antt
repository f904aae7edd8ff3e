-- The whole assignment is the unifier and then the goal's own entry: both give one instance of what does not come to mention the goal.
use Rattle.std.proofs.Common.{◌≡◌, ℕ, Bool, true, false, Option, Some, None, List, [], ◌∷◌, map, length, refl, sym, ap, ◌∙◌, subst}
use Rattle.std.specs.Prelude.{nat_eq, if◌then◌else◌}
use Rattle.std.proofs.lemmas.Bool.{eqb-true}
use Rattle.lf_definitions.specs.Syntax.{metavariable, LfTerm, lams, Spine, SimpleType, shapes_of_types}
use Rattle.lf_definitions.specs.Shaping.{ShapedSpine}
use Rattle.lf_definitions.specs.Occurrence.{OccursIn, OccursInSpine}
use Rattle.lf_definitions.specs.ShapedGoals.{scope_in}
use Rattle.lf_definitions.specs.Typing.{LfGoal}
use Rattle.lf_definitions.specs.Signatures.{LfSignature}
use Rattle.lf_definitions.specs.GoalLists.{LfGoals}
use Rattle.lf_definitions.specs.Instantiation.{Assignment, LfAssigned, assignment_of}
use Rattle.lf_definitions.proofs.Options.{None-Some, Some-Some}
use Rattle.head_laws.specs.AssignmentLaws.{AssignsClosedTerms}
use Rattle.lf_functions.specs.Instances.{instance_of, instance_of_spine}
use Rattle.lf_functions.specs.CompositionLaws.{instance_of_assigned, followed_by}
use Rattle.lf_functions.proofs.Compositions.{instances_compose}
use Rattle.lf_functions.proofs.InstanceLaws.{instances_look_at_what_occurs, unassigned_instances_are_the_same}
use Rattle.applications.specs.Methods.{LfCandidate}
use Rattle.applications.specs.Applications.{LfApplication, entry_of, put_into}
use Rattle.application_laws.proofs.Members.{in_left, goal_is_in, under_lams, put_keeps_none}
use Rattle.application_laws.proofs.WholeAssignments.{unifier_goes, alone_goes}
use Rattle.completion_laws.specs.Laws.{IsUnified}
use Rattle.completion_laws.proofs.Bodies.{instance-lams}
use Rattle.completion_laws.proofs.Unified.{goal_stays}
use Rattle.completion_laws.proofs.Besides.{own_closed}
use Rattle.typed_steps.proofs.Situations.{IsMade, shaped_signature, one_of}
use Rattle.typed_steps.proofs.Remaining.{Old, Everything, Whole, shaped_old, put_is_whole, left_has_none, body_mentions}
use Rattle.typed_steps.proofs.Closing.{Body, goal_is_put}

-- What is put into all bodies is put into what is found.
put_found : (goals : List LfGoal) (e : LfAssigned) → AssignsClosedTerms (assignment_of (e ∷ [])) → (es : List LfAssigned) (k : ℕ) (u : LfTerm) → assignment_of es k ≡ Some u →
    assignment_of (map (put_into goals e) es) k ≡ Some (instance_of goals (assignment_of (e ∷ [])) u)
put_found goals e closed [] k u found = absurd cc
put_found goals e closed (f ∷ rest) k u found = step (nat_eq f.assigned_goal k) found (put_found goals e closed rest k u)
  where
    put : LfTerm → LfTerm
    put t = instance_of goals (assignment_of (e ∷ [])) t

    step : (b : Bool) → (if b then Some (lams f.binders_count f.body) else assignment_of rest k) ≡ Some u →
        (assignment_of rest k ≡ Some u → assignment_of (map (put_into goals e) rest) k ≡ Some (put u)) →
        (if b then Some (lams f.binders_count (put f.body)) else assignment_of (map (put_into goals e) rest) k) ≡ Some (put u)
    step true is later = ap Some (sym (instance-lams goals (assignment_of (e ∷ [])) closed f.binders_count f.body) ∙ ap put (Some-Some is))
    step false is later = later is

module _ (sig : LfSignature) (list : LfGoals) (n : ℕ) (g : LfGoal) (c : LfCandidate) (a : LfApplication) (m : IsMade sig list n g c a) where
  abbrev pub Unifier : Assignment
  Unifier = assignment_of m.counted.entries

  abbrev Own : LfAssigned
  Own = entry_of g m.counted.done.becomes_term

  abbrev pub Alone : Assignment
  Alone = assignment_of (Own ∷ [])

  abbrev All_goals : List LfGoal
  All_goals = Everything sig list n g c a m

  pub unified : IsUnified sig (Old sig list n g c a m) n g c m.counted.entries
  unified = record {
    of_signature = shaped_signature sig list n g c a m;
    of_goals = shaped_old sig list n g c a m;
    below = m.below;
    one_of = one_of sig list n g c a m;
    may_be_used = m.may_be_used;
    solves = m.counted.solves;
  }

  pub whole_has_goal : Whole sig list n g c a m g.id ≡ Some (Body sig list n g c a m)
  whole_has_goal = sym (put_is_whole sig list n g c a m g.id (goal_is_in (Old sig list n g c a m) g (one_of sig list n g c a m))) ∙ goal_is_put sig list n g c a m

  pub not_itself : OccursIn (metavariable g.id) m.counted.done.becomes_term → ⊥
  not_itself o =
      None-Some
      (left_has_none sig list n g c a m g.id
      (body_mentions sig list n g c a m g.id (Body sig list n g c a m) (in_left g.id (Old sig list n g c a m) c.opened.fresh (goal_is_in (Old sig list n g c a m) g (one_of sig list n g c a m))) whole_has_goal
      g.id (under_lams g.id (length g.context) m.counted.done.becomes_term o)))
      (goal_is_put sig list n g c a m)

  alone_closed : AssignsClosedTerms Alone
  alone_closed = own_closed sig (Old sig list n g c a m) n g c m.counted.entries unified m.counted.done m.counted.completes not_itself

  pub follows : (k : ℕ) → followed_by All_goals Unifier Alone k ≡ Whole sig list n g c a m k
  follows k = step (Unifier k) refl (nat_eq g.id k) refl
    where
      put : List LfAssigned
      put = map (put_into All_goals Own) m.counted.entries

      step : (o : Option LfTerm) → Unifier k ≡ o → (b : Bool) → nat_eq g.id k ≡ b →
          instance_of_assigned All_goals Alone k o ≡ (if b then Some (Body sig list n g c a m) else assignment_of put k)
      step None e true same = ap (λ b. if b then Some (Body sig list n g c a m) else None) same
      step None e false differ = ap (λ b. if b then Some (Body sig list n g c a m) else None) differ ∙ sym (put_keeps_none All_goals Own m.counted.entries k e)
      step (Some u) e true same = absurd (None-Some (goal_stays sig (Old sig list n g c a m) n g c m.counted.entries unified) (ap Unifier (eqb-true g.id k same) ∙ e))
      step (Some u) e false differ = sym (put_found All_goals Own alone_closed m.counted.entries k u e)

  -- So arguments in the goal's context have one instance.
  pub spine_whole : (ts : Spine) (s : SimpleType) → ShapedSpine (scope_in sig All_goals g.context) ts s → (OccursInSpine (metavariable g.id) (instance_of_spine All_goals Unifier ts) → ⊥) →
      instance_of_spine All_goals (Whole sig list n g c a m) ts ≡ instance_of_spine All_goals Unifier ts
  spine_whole ts s shaped never =
      let first = unifier_goes sig (Old sig list n g c a m) (shaped_old sig list n g c a m).0 n m.below g (one_of sig list n g c a m) c m.may_be_used m.counted.entries m.counted.solves in
      let second = alone_goes sig (Old sig list n g c a m) (shaped_old sig list n g c a m).0 n m.below g (one_of sig list n g c a m) c m.may_be_used m.counted.entries m.counted.solves m.counted.done m.counted.completes (shapes_of_types g.context) in
      sym ((instances_look_at_what_occurs All_goals (followed_by All_goals Unifier Alone) (Whole sig list n g c a m)).1 ts (λ k o. follows k))
      ∙ sym ((instances_compose sig All_goals All_goals g.context g.context first.0 second.0 _ Unifier Alone first.1 second.1).1 ts s shaped)
      ∙ (unassigned_instances_are_the_same All_goals Alone).1 (instance_of_spine All_goals Unifier ts) alone_none
    where
      alone_none : (k : ℕ) → OccursInSpine (metavariable k) (instance_of_spine All_goals Unifier ts) → Alone k ≡ None
      alone_none k o = each (nat_eq g.id k) refl
        where
          each : (b : Bool) → nat_eq g.id k ≡ b → (if b then Some (Body sig list n g c a m) else None) ≡ None
          each true same = absurd (never (subst (λ j. OccursInSpine (metavariable j) (instance_of_spine All_goals Unifier ts)) (sym (eqb-true g.id k same)) o))
          each false differ = refl
