-- Scripts that are followed step by step: what a step does to the whole, and what comes at the end.
use Rattle.std.proofs.Common.{◌≡◌, ℕ, suc, ◌+◌, ◌<◌, true, false, Option, Some, None, option_map, List, [], ◌∷◌, ◌++◌, length, get_or, drop, map, find, refl, sym, ap, ap₂, ◌∙◌, subst, arith, append_assoc, append-nil, All}
use Rattle.std.specs.Prelude.{Vec}
use Rattle.std.specs.Global.{Global}
use Rattle.std.specs.Option.{option_to_list}
use Rattle.std.proofs.lemmas.List.{drop_more, drop_all}
use Rattle.std.proofs.lemmas.List.Elements.{All-head}
use Rattle.lf_definitions.specs.Syntax.{LfTerm, lams, LfType, binders_of}
use Rattle.lf_definitions.specs.ShapedGoals.{ShapedGoals}
use Rattle.lf_definitions.specs.Signatures.{LfSignature}
use Rattle.lf_definitions.specs.GoalLists.{LfGoals, all_goals, opening}
use Rattle.lf_definitions.specs.Instantiation.{LfAssigned, assignment_of}
use Rattle.lf_definitions.proofs.Options.{Some-Some}
use Rattle.lf_functions.specs.Instances.{instance_of}
use Rattle.alternatives.specs.Rules.{LfRule}
use Rattle.alternatives.specs.NormalForms.{has_none}
use Rattle.alternatives.specs.Alternatives.{LfAlternative}
use Rattle.alternatives.specs.Taking.{Takes}
use Rattle.derivations.specs.Derivations.{alternatives_of}
use Rattle.derivations.specs.Replays.{LfStep, is_step_of, closed, steps_left, no_such_step, own_term, replayed_from, replay}
use Rattle.derivations.proofs.Scripts.{has_none-empty, one_step_on, closed_without_goals, steps_are_left, no_step_is_found, replay_begins}
use Rattle.meta_goals.specs.Bindings.{LfBinding, assigned_of, assigning}
use Rattle.meta_goals.specs.GoalsOf.{goals_of}
use Rattle.meta_goals.specs.Laws.{HaveShapesOf}
use Rattle.goal_book.specs.GoalBooks.{LfBook, rules_in}
use Rattle.proof_replay.specs.declared.next.Next.{Next}
use Rattle.proof_replay.specs.Naming.{left_by, seen_next}
use Rattle.proof_replay.specs.declared.following.Trail.{Trail}
use Rattle.proof_replay.specs.declared.following.Run.{Run}
use Rattle.proof_replay.specs.declared.following.Run.TheVariants.{Led, Refused}
use Rattle.proof_replay.specs.declared.replayed.Replayed.{Replayed}
use Rattle.proof_replay.specs.declared.step.Step.{Step}
use Rattle.proof_replay.specs.Seen.{seen_step, seen_replayed}
use Rattle.proof_replay.specs.Leading.{Leads, carried}
use Rattle.proof_replay.specs.Runs.{LfRun, led, refused, after_builds, IsRun}
use Rattle.proof_replay.specs.Turns.{MayBeFollowed, seen_run, GoesOn, IsTurn, EndsTrail}
use Rattle.proof_replay.proofs.Alternatives.{found_takes}

-- Whatever comes after builds and one more comes after the one more, after the builds.
builds_more : (builds : List (List LfBinding)) (build : List LfBinding) (run : LfRun) → after_builds builds (after_builds (build ∷ []) run) ≡ after_builds (builds ++ build ∷ []) run
builds_more builds build (led rest) = ap led (sym (append_assoc builds (build ∷ []) rest))
builds_more builds build (refused answer) = refl

-- What a script comes to after one step.
run_before : (sig : LfSignature) (rules : List LfRule) (step : LfStep) (k : ℕ) (old new : Trail) → (on : GoesOn sig rules step k old new) → (a : LfType) (rest : List LfStep) (run : LfRun) →
    IsRun sig rules a (goals_of new.list) (suc k) rest run → IsRun sig rules a (goals_of old.list) k (step ∷ rest) (after_builds (on.build ∷ []) run)
run_before sig rules step k old new on a rest (led builds) (leads, is) = (
  (goals_of new.list, on.takes, leads),
  λ t. on.continues a rest t ∙ is (instance_of (all_goals (goals_of old.list)) (assigning on.build) t),
)
run_before sig rules step k old new on a rest (refused answer) is = λ t. on.continues a rest t ∙ is (instance_of (all_goals (goals_of old.list)) (assigning on.build) t)

-- Where a script has been followed to its i-th step: the list is shaped, and whatever comes of the rest comes of the whole.
pub record IsOnTheWay (sig : LfSignature) (rules : List LfRule) (first : LfGoals) (script : List Step) (i : ℕ) (trail : Trail) : Type 0 where
  pub shaped : ShapedGoals sig (all_goals (goals_of trail.list))
  pub onward : (a : LfType) (run : LfRun) → IsRun sig rules a (goals_of trail.list) i (map seen_step (drop i script)) run →
      IsRun sig rules a first 0 (map seen_step script) (after_builds trail.builds.items run)

after_none : (run : LfRun) → after_builds [] run ≡ run
after_none (led rest) = refl
after_none (refused answer) = refl

pub at_first : (sig : LfSignature) (rules : List LfRule) (script : List Step) (trail : Trail) → trail.builds.items ≡ [] → ShapedGoals sig (all_goals (goals_of trail.list)) →
    IsOnTheWay sig rules (goals_of trail.list) script 0 trail
at_first sig rules script trail none shaped = record {
  shaped = shaped;
  onward = λ a run is. subst (IsRun sig rules a (goals_of trail.list) 0 (map seen_step script)) (sym (ap (λ bs. after_builds bs run) none ∙ after_none run)) is;
}

module _ (sig : LfSignature) (rules : List LfRule) (first : LfGoals) (script : List Step) (i : ℕ) (old : Trail) (way : IsOnTheWay sig rules first script i old)
    (step : Step) (less : i < length script) (is : step ≡ get_or script i step) where
  rest_is : map seen_step (drop i script) ≡ seen_step step ∷ map seen_step (drop (i + 1) script)
  rest_is = ap (map seen_step) (drop_more script i step less ∙ ap (λ x. x ∷ drop (i + 1) script) (sym is))

  goes_further : (new : Trail) → IsTurn sig rules (seen_step step) i old new None → IsOnTheWay sig rules first script (i + 1) new
  goes_further new on = record {
    shaped = on.takes.takes.shaped;
    onward = λ a run here.
        let next : i + 1 ≡ suc i = omega arith in
        let before = run_before sig rules (seen_step step) i old new on a (map seen_step (drop (i + 1) script)) run
        (subst (λ k. IsRun sig rules a (goals_of new.list) k (map seen_step (drop (i + 1) script)) run) next here) in
        subst (IsRun sig rules a first 0 (map seen_step script)) (builds_more old.builds.items on.build run ∙ ap (λ bs. after_builds bs run) (sym on.builds_are))
        (way.onward a (after_builds (on.build ∷ []) run) (subst (λ l. IsRun sig rules a (goals_of old.list) i l (after_builds (on.build ∷ []) run)) (sym rest_is) before));
  }

  pub on_the_way : (new : Trail) (o : Option Replayed) → o ≡ None → IsTurn sig rules (seen_step step) i old new o → IsOnTheWay sig rules first script (i + 1) new
  on_the_way new o none turned = goes_further new (subst (IsTurn sig rules (seen_step step) i old new) none turned)

  pub ends_here : (new : Trail) (o : Option Replayed) (answer : Replayed) → o ≡ Some answer → IsTurn sig rules (seen_step step) i old new o → (a : LfType) → IsRun sig rules a first 0 (map seen_step script) (refused (seen_replayed answer))
  ends_here new o answer is turned a =
      let ended : IsTurn sig rules (seen_step step) i old new (Some answer) = subst (IsTurn sig rules (seen_step step) i old new) is turned in
      way.onward a (refused (seen_replayed answer)) (λ t. ap (replayed_from sig rules a (goals_of old.list) t i) rest_is ∙ ended a (map seen_step (drop (i + 1) script)) t)

-- After all steps.
pub comes_to : (sig : LfSignature) (rules : List LfRule) (first : LfGoals) (script : List Step) (i : ℕ) (trail : Trail) → IsOnTheWay sig rules first script i trail → i ≡ length script →
    (run : Run) → EndsTrail trail (length script) run → (a : LfType) → IsRun sig rules a first 0 (map seen_step script) (seen_run run)
comes_to sig rules first script i trail way end (Led builds) (are, none) a =
    let rest : map seen_step (drop i script) ≡ [] = ap (map seen_step) (drop_all i script (omega (arith, end))) in
    subst (λ bs. IsRun sig rules a first 0 (map seen_step script) (led bs)) (append-nil trail.builds.items ∙ sym are)
    (way.onward a (led []) (none, λ t. ap (replayed_from sig rules a (goals_of trail.list) t i) rest ∙ closed_without_goals sig rules a (goals_of trail.list) t i none))
comes_to sig rules first script i trail way end (Refused answer) ended a =
    let rest : map seen_step (drop i script) ≡ [] = ap (map seen_step) (drop_all i script (omega (arith, end))) in
    way.onward a (refused (seen_replayed answer))
    (λ t. ap₂ (λ k l. replayed_from sig rules a (goals_of trail.list) t k l) end rest ∙ ended sig rules a t)

-- what is left by an alternative that is there
none_left_by : (o : Option LfAlternative) → option_map left_by o ≡ None → o ≡ None
none_left_by None e = refl
none_left_by (Some x) e = absurd cc

some_left_by : (o : Option LfAlternative) (p : LfGoals × List LfAssigned) → option_map left_by o ≡ Some p → (x : LfAlternative) × (o ≡ Some x) × (left_by x ≡ p)
some_left_by None p e = absurd cc
some_left_by (Some x) p e = (x, refl, Some-Some e)

-- One turn.
module _ (b : LfBook) (step : LfStep) (k : ℕ) (old : Trail) where
  pub no_goal_before : (answer : Replayed) (new : Trail) → has_none (all_goals (goals_of old.list)) ≡ true → seen_replayed answer ≡ steps_left k → IsTurn b.sig (rules_in b) step k old new (Some answer)
  no_goal_before answer new none is = λ a rest t. steps_are_left b.sig (rules_in b) a (goals_of old.list) t k step rest (has_none-empty (all_goals (goals_of old.list)) none) ∙ sym is

  pub not_found : (answer : Replayed) (new : Trail) → has_none (all_goals (goals_of old.list)) ≡ false → seen_replayed answer ≡ no_such_step k → (o : Option Next) → o ≡ None →
      option_map seen_next o ≡ option_map left_by (find (is_step_of step) (alternatives_of b.sig (rules_in b) (goals_of old.list))) → IsTurn b.sig (rules_in b) step k old new (Some answer)
  not_found answer new some is o none found = λ a rest t.
      no_step_is_found b.sig (rules_in b) a (goals_of old.list) t k step rest some
      (none_left_by (find (is_step_of step) (alternatives_of b.sig (rules_in b) (goals_of old.list))) (sym found ∙ ap (option_map seen_next) none)) ∙ sym is

  pub goes_on : (new : Trail) → MayBeFollowed b → ShapedGoals b.sig (all_goals (goals_of old.list)) → has_none (all_goals (goals_of old.list)) ≡ false → (o : Option Next) (next : Next) →
      o ≡ Some next → option_map seen_next o ≡ option_map left_by (find (is_step_of step) (alternatives_of b.sig (rules_in b) (goals_of old.list))) →
      All (λ n. HaveShapesOf (all_goals (goals_of old.list)) n.build) (option_to_list o) →
      new.builds.items ≡ old.builds.items ++ next.build ∷ [] → goals_of new.list ≡ goals_of next.goals → IsTurn b.sig (rules_in b) step k old new None
  goes_on new may shaped some o next is found shapes builds list_is = record {
    build = next.build;
    builds_are = builds;
    takes = record {
      takes = subst (λ l. Takes b.sig (goals_of old.list) l (map assigned_of next.build)) (sym list_is)
          (subst (λ p. Takes b.sig (goals_of old.list) p.0 p.1) alternative.2 (found_takes b may (goals_of old.list) shaped (is_step_of step) alternative.0 alternative.1));
      shapes = All-head (λ (x : Next). HaveShapesOf (all_goals (goals_of old.list)) x.build) next [] (subst (λ x. All (λ n. HaveShapesOf (all_goals (goals_of old.list)) n.build) (option_to_list x)) is shapes);
    };
    continues = λ a rest t.
        one_step_on b.sig (rules_in b) a (goals_of old.list) t k step rest alternative.0 some alternative.1
        ∙ ap (λ (p : LfGoals × List LfAssigned). replayed_from b.sig (rules_in b) a p.0 (instance_of (all_goals (goals_of old.list)) (assignment_of p.1) t) (suc k) rest) alternative.2
        ∙ ap (λ l. replayed_from b.sig (rules_in b) a l (instance_of (all_goals (goals_of old.list)) (assigning next.build) t) (suc k) rest) (sym list_is);
  }
    where
      alternative : (x : LfAlternative) × (find (is_step_of step) (alternatives_of b.sig (rules_in b) (goals_of old.list)) ≡ Some x) × (left_by x ≡ seen_next next)
      alternative = some_left_by (find (is_step_of step) (alternatives_of b.sig (rules_in b) (goals_of old.list))) (seen_next next) (sym found ∙ ap (option_map seen_next) is)

-- The whole script, from the opening list.
module _ (sig : LfSignature) (rules : List LfRule) (a : LfType) (script : List LfStep) (first : LfGoals) (first_is : first ≡ opening a) where
  abbrev pub Comes : LfRun → Type 0
  Comes run = (b : LfType) → IsRun sig rules b first 0 script run

  from_opening : (run : LfRun) → Comes run → IsRun sig rules a (opening a) 0 script run
  from_opening run comes = subst (λ l. IsRun sig rules a l 0 script run) first_is (comes a)

  pub refused_is : (run : Run) (answer : Replayed) → run ≡ Refused answer → Comes (seen_run run) → seen_replayed answer ≡ replay sig rules a script
  refused_is run answer is comes =
      sym (replay_begins sig rules a script ∙ from_opening (refused (seen_replayed answer)) (subst (λ r. Comes (seen_run r)) is comes) (own_term a))

  led_from_opening : (run : Run) (builds : Vec (List LfBinding) Global) → run ≡ Led builds → Comes (seen_run run) → IsRun sig rules a (opening a) 0 script (led builds.items)
  led_from_opening run builds is comes = from_opening (led builds.items) (subst (λ r. Comes (seen_run r)) is comes)

  pub led_on : (run : Run) (vec : Vec (List LfBinding) Global) → run ≡ Led vec → Comes (seen_run run) → (builds : List (List LfBinding)) → builds ≡ vec.items → (s : LfSignature) × Leads s (opening a) builds
  led_on run vec is comes builds same = (sig, subst (Leads sig (opening a)) (sym same) (led_from_opening run vec is comes).0)

  pub led_is : (run : Run) (vec : Vec (List LfBinding) Global) → run ≡ Led vec → Comes (seen_run run) → (builds : List (List LfBinding)) → builds ≡ vec.items → (t : LfTerm) →
      ((s : LfSignature) (leads : Leads s (opening a) builds) → t ≡ lams (length (binders_of a)) (carried s (opening a) builds leads (own_term a))) → closed t ≡ replay sig rules a script
  led_is run vec is comes builds same t whole =
      let at_opening = subst (λ bs. IsRun sig rules a (opening a) 0 script (led bs)) (sym same) (led_from_opening run vec is comes) in
      sym (replay_begins sig rules a script ∙ at_opening.1 (own_term a) ∙ ap closed (sym (whole sig at_opening.0)))
