-- Where what the goal becomes mentions the goal, the goal's entry is not typed in what is left.
use Rattle.std.proofs.Common.{◌≡◌, ◌⊎◌, inl, inr, ℕ, ◌+◌, Bool, true, false, Some, None, List, [], ◌++◌, length, refl, ap, subst, arith}
use Rattle.std.specs.Prelude.{map, if◌then◌else◌}
use Rattle.std.proofs.lemmas.Bool.{eq-eqb}
use Rattle.lf_definitions.specs.Syntax.{metavariable, lams}
use Rattle.lf_definitions.specs.Occurrence.{OccursIn}
use Rattle.lf_definitions.specs.Typing.{LfGoal, goal_type}
use Rattle.lf_definitions.specs.Signatures.{LfSignature}
use Rattle.lf_definitions.specs.GoalLists.{ids}
use Rattle.lf_definitions.specs.Instantiation.{Assignment, LfAssigned, assignment_of}
use Rattle.lf_definitions.proofs.Options.{None-Some}
use Rattle.lf_functions.specs.Instances.{instance_of_goal}
use Rattle.lf_functions.proofs.CheckingLaws.{has_type_knows_what_occurs}
use Rattle.unification.proofs.Remaining.{OccursIn-lams}
use Rattle.applications.specs.Methods.{LfCandidate}
use Rattle.applications.specs.Applications.{Completion, completion, put_into, entry_of, goals_left, entries_are_typed}
use Rattle.application_laws.proofs.Members.{IsIn, in_left, in_cases, in_either, goal_is_in, typed_is_in, left_is_in, tested_entry}
use Rattle.application_laws.proofs.Counted.{AddsOne, none_or_one}
use Rattle.completion_laws.specs.Laws.{IsUnified, NothingMentionsItself, whole_of, left_of}
use Rattle.completion_laws.proofs.Unified.{goal_below}

module _ (sig : LfSignature) (goals : List LfGoal) (n : ℕ) (g : LfGoal) (c : LfCandidate) (entries : List LfAssigned) (x : IsUnified sig goals n g c entries) (done : Completion)
    (completes : completion n (goals ++ c.opened.fresh) g c (assignment_of entries) c.outcome ≡ Some done) where
  abbrev Everything : List LfGoal
  Everything = goals ++ c.opened.fresh

  abbrev pub Whole : Assignment
  Whole = assignment_of (whole_of goals g c entries done)

  pub goal_has_entry : Whole g.id ≡ Some (lams (length g.context) done.becomes_term)
  goal_has_entry = ap (λ b. if b then Some (lams (length g.context) done.becomes_term) else assignment_of (map (put_into Everything (entry_of g done.becomes_term)) entries) g.id) (eq-eqb g.id g.id refl)

  -- The goals that are added have the next number.
  pub more_is_next : (m : ℕ) → IsIn m (ids done.more) → m ≡ n + length c.opened.fresh
  more_is_next m is = each (none_or_one n Everything g c (assignment_of entries) done c.outcome refl completes)
    where
      none_there : IsIn m [] → ⊥
      none_there e = absurd cc

      each : (done.more ≡ []) ⊎ AddsOne n Everything g c (assignment_of entries) done → m ≡ n + length c.opened.fresh
      each (inl none) = absurd (none_there (subst (λ more. IsIn m (ids more)) none is))
      each (inr one) = only (in_cases m (n + length c.opened.fresh) [] (subst (λ more. IsIn m (ids more)) one.more_is is))
        where
          only : (m ≡ n + length c.opened.fresh) ⊎ IsIn m [] → m ≡ n + length c.opened.fresh
          only (inl same) = same
          only (inr there) = absurd (none_there there)

  -- The goal is not among what is left.
  pub goal_is_gone : IsIn g.id (ids (left_of goals g c entries done)) → ⊥
  goal_is_gone is = each (in_either g.id (goals_left Everything Whole Everything) done.more is)
    where
      each : IsIn g.id (ids (goals_left Everything Whole Everything)) ⊎ IsIn g.id (ids done.more) → ⊥
      each (inl p) = None-Some (left_is_in Everything Whole Everything g.id p).1 goal_has_entry
      each (inr p) = let same = more_is_next g.id p in let less = goal_below sig goals n g c entries x in absurd (omega (arith, same, less))

  not_typed : OccursIn (metavariable g.id) done.becomes_term → entries_are_typed sig Everything Whole (left_of goals g c entries done) Everything ≡ true → ⊥
  not_typed o typed =
      let u = lams (length g.context) done.becomes_term in
      let left = left_of goals g c entries done in
      let tested = tested_entry sig Everything Whole left Everything typed g.id u (in_left g.id goals c.opened.fresh (goal_is_in goals g x.one_of)) goal_has_entry in
      let known = has_type_knows_what_occurs sig left [] u (goal_type (instance_of_goal Everything Whole tested.0)) tested.1 g.id (OccursIn-lams (length g.context) done.becomes_term g.id o) in
      goal_is_gone (typed_is_in left g.id known.0 known.1)

pub nothing_mentions_itself : NothingMentionsItself
nothing_mentions_itself sig goals n g c entries x done completes o =
    step _ (entries_are_typed sig (goals ++ c.opened.fresh) (assignment_of (whole_of goals g c entries done)) (left_of goals g c entries done) (goals ++ c.opened.fresh)) (not_typed sig goals n g c entries x done completes o)
  where
    step : {A : Type 0} (a : A) (b : Bool) → (b ≡ true → ⊥) → (if b then Some a else None) ≡ None
    step a true never = absurd (never refl)
    step a false never = refl
