-- A script that closes a list of goals goes along a derivation, and each derivation has one.
use Rattle.std.proofs.Common.{◌≡◌, ℕ, suc, Bool, true, false, Option, Some, None, List, [], ◌∷◌, length, AllPairs, find, refl, sym, ap, ◌∙◌}
use Rattle.std.specs.Prelude.{if◌then◌else◌, slice_get}
use Rattle.std.specs.List.{position_or_len}
use Rattle.std.proofs.lemmas.List.Folds.{find_at}
use Rattle.lf_definitions.specs.Syntax.{LfTerm, lams, LfType, binders_of}
use Rattle.lf_definitions.specs.Typing.{LfGoal}
use Rattle.lf_definitions.specs.Signatures.{LfSignature}
use Rattle.lf_definitions.specs.GoalLists.{LfGoals, all_goals, next_id, opening}
use Rattle.lf_definitions.specs.Instantiation.{assignment_of}
use Rattle.lf_functions.specs.Instances.{instance_of}
use Rattle.alternatives.specs.Rules.{LfRule}
use Rattle.alternatives.specs.NormalForms.{has_none}
use Rattle.alternatives.specs.Alternatives.{LfAlternative}
use Rattle.derivations.specs.Derivations.{alternatives_of, IsDerivation, no_goal_left, one_step}
use Rattle.derivations.specs.Replays.{LfStep, is_step_of, LfReplayed, closed, no_such_step, steps_left, goals_left_after, own_term, followed, replayed_from, replay}
use Rattle.derivations.specs.Laws.{DerivableTypesReplay}
use Rattle.derivations.proofs.Lists.{find_only}
use Rattle.derivations.proofs.NoGoals.{no_alternative}
use Rattle.derivations.proofs.LastSteps.{HasAnotherLast, HasAnotherNumber, alternatives_differ}
use Rattle.derivations.proofs.SameSteps.{is_step_of_decides, step_of, is_own_step}

pub has_none-empty : (goals : List LfGoal) → has_none goals ≡ true → goals ≡ []
has_none-empty [] none = refl
has_none-empty (g ∷ rest) none = absurd cc

pub has_none-cases : (goals : List LfGoal) → (goals ≡ [] → ⊥) → has_none goals ≡ false
has_none-cases [] some = absurd (some refl)
has_none-cases (g ∷ rest) some = refl

module _ (sig : LfSignature) (rules : List LfRule) where
  abbrev pub HasDerivation : LfGoals → Type 0
  HasDerivation list = (numbers : List ℕ) × IsDerivation sig rules list numbers

  -- Where a list has an alternative, it has a goal.
  pub alternatives_need_goals : (list : LfGoals) (i : ℕ) (alternative : LfAlternative) → slice_get (alternatives_of sig rules list) i ≡ Some alternative → has_none (all_goals list) ≡ false
  alternatives_need_goals list i alternative there =
      has_none-cases (all_goals list) (λ none. let e = sym (ap (λ xs. slice_get xs i) (no_alternative sig rules (next_id list) list none)) ∙ there in absurd cc)

  -- The step of an alternative finds it again.
  pub own_step_is_found : AllPairs HasAnotherNumber rules → (list : LfGoals) (i : ℕ) (alternative : LfAlternative) → slice_get (alternatives_of sig rules list) i ≡ Some alternative →
      find (is_step_of (step_of alternative)) (alternatives_of sig rules list) ≡ Some alternative
  own_step_is_found differ list i alternative there =
      find_only HasAnotherLast (is_step_of (step_of alternative)) (alternatives_of sig rules list) i alternative (alternatives_differ sig rules differ (next_id list) list)
      (λ other passes another. another (sym ((is_step_of_decides (step_of alternative) other).0 passes).1)) there (is_own_step alternative)

  -- an alternative that is found, and what comes of the steps after it
  found_one : (list : LfGoals) (test : LfAlternative → Bool) (onward : LfAlternative → LfReplayed) (k : ℕ) (u : LfTerm) →
      ((alternative : LfAlternative) → onward alternative ≡ closed u → HasDerivation alternative.goals) → (b : Bool) (o : Option LfAlternative) →
      find test (alternatives_of sig rules list) ≡ o → (if b then steps_left k else followed k onward o) ≡ closed u → HasDerivation list
  found_one list test onward k u later true o found e = absurd cc
  found_one list test onward k u later false None found e = absurd cc
  found_one list test onward k u later false (Some alternative) found e =
      let rest = later alternative e in
      let i = position_or_len test (alternatives_of sig rules list) in
      (i ∷ rest.0, one_step i alternative (sym (find_at test (alternatives_of sig rules list)) ∙ found) rest.1)

  module _ (a : LfType) where
    -- the term after an alternative
    abbrev pub carried_on : LfGoals → LfTerm → LfAlternative → LfTerm
    carried_on list t alternative = instance_of (all_goals list) (assignment_of alternative.build) t

    -- A script that closes, from any list, term and step.
    pub derivation_of_script : (script : List LfStep) (list : LfGoals) (t : LfTerm) (k : ℕ) (u : LfTerm) → replayed_from sig rules a list t k script ≡ closed u → HasDerivation list
    derivation_of_script [] list t k u e = step (has_none (all_goals list)) refl e
      where
        step : (b : Bool) → has_none (all_goals list) ≡ b → (if b then closed (lams (length (binders_of a)) t) else goals_left_after k) ≡ closed u → HasDerivation list
        step true none e = ([], no_goal_left (has_none-empty (all_goals list) none))
        step false some e = absurd cc
    derivation_of_script (step ∷ rest) list t k u e =
        found_one list (is_step_of step) (λ alternative. replayed_from sig rules a alternative.goals (carried_on list t alternative) (suc k) rest) k u
        (λ alternative. derivation_of_script rest alternative.goals (carried_on list t alternative) (suc k) u) (has_none (all_goals list))
        (find (is_step_of step) (alternatives_of sig rules list)) refl e

    abbrev pub HasScript : LfGoals → LfTerm → ℕ → Type 0
    HasScript list t k = (script : List LfStep) × (u : LfTerm) × (replayed_from sig rules a list t k script ≡ closed u)

    -- no step more where no goal is left
    pub closed_without_goals : (list : LfGoals) (t : LfTerm) (k : ℕ) → all_goals list ≡ [] → replayed_from sig rules a list t k [] ≡ closed (lams (length (binders_of a)) t)
    closed_without_goals list t k none = ap (λ b. if b then closed (lams (length (binders_of a)) t) else goals_left_after k) (ap has_none none)

    -- one step that finds its alternative
    pub one_step_on : (list : LfGoals) (t : LfTerm) (k : ℕ) (step : LfStep) (rest : List LfStep) (alternative : LfAlternative) → has_none (all_goals list) ≡ false →
        find (is_step_of step) (alternatives_of sig rules list) ≡ Some alternative →
        replayed_from sig rules a list t k (step ∷ rest) ≡ replayed_from sig rules a alternative.goals (carried_on list t alternative) (suc k) rest
    one_step_on list t k step rest alternative some found =
        let onward : LfAlternative → LfReplayed = λ other. replayed_from sig rules a other.goals (carried_on list t other) (suc k) rest in
        ap (λ b. if b then steps_left k else followed k onward (find (is_step_of step) (alternatives_of sig rules list))) some ∙ ap (followed k onward) found

    -- and the ways in which a script fails
    pub goals_are_left : (list : LfGoals) (t : LfTerm) (k : ℕ) → has_none (all_goals list) ≡ false → replayed_from sig rules a list t k [] ≡ goals_left_after k
    goals_are_left list t k some = ap (λ b. if b then closed (lams (length (binders_of a)) t) else goals_left_after k) some

    pub steps_are_left : (list : LfGoals) (t : LfTerm) (k : ℕ) (step : LfStep) (rest : List LfStep) → all_goals list ≡ [] → replayed_from sig rules a list t k (step ∷ rest) ≡ steps_left k
    steps_are_left list t k step rest none =
        let onward : LfAlternative → LfReplayed = λ other. replayed_from sig rules a other.goals (carried_on list t other) (suc k) rest in
        ap (λ b. if b then steps_left k else followed k onward (find (is_step_of step) (alternatives_of sig rules list))) (ap has_none none)

    pub no_step_is_found : (list : LfGoals) (t : LfTerm) (k : ℕ) (step : LfStep) (rest : List LfStep) → has_none (all_goals list) ≡ false →
        find (is_step_of step) (alternatives_of sig rules list) ≡ None → replayed_from sig rules a list t k (step ∷ rest) ≡ no_such_step k
    no_step_is_found list t k step rest some found =
        let onward : LfAlternative → LfReplayed = λ other. replayed_from sig rules a other.goals (carried_on list t other) (suc k) rest in
        ap (λ b. if b then steps_left k else followed k onward (find (is_step_of step) (alternatives_of sig rules list))) some ∙ ap (followed k onward) found

    -- the whole script
    pub replay_begins : (script : List LfStep) → replay sig rules a script ≡ replayed_from sig rules a (opening a) (own_term a) 0 script
    unfolding replay
    replay_begins script = refl

    -- So a derivation gives a script, from any list, term and step.
    pub script_of_derivation : AllPairs HasAnotherNumber rules → (list : LfGoals) (numbers : List ℕ) → IsDerivation sig rules list numbers → (t : LfTerm) (k : ℕ) → HasScript list t k
    script_of_derivation differ list numbers (no_goal_left none) t k = ([], lams (length (binders_of a)) t, closed_without_goals list t k none)
    script_of_derivation differ list numbers (one_step {rest = rest} i alternative there derivation) t k =
        let later = script_of_derivation differ alternative.goals rest derivation (carried_on list t alternative) (suc k) in (
          step_of alternative ∷ later.0,
          later.1,
          one_step_on list t k (step_of alternative) later.0 alternative (alternatives_need_goals list i alternative there) (own_step_is_found differ list i alternative there) ∙ later.2,
        )

pub derivable_types_replay : DerivableTypesReplay
unfolding replay
derivable_types_replay sig rules a = (
  λ script t. derivation_of_script sig rules a script (opening a) (own_term a) 0 t,
  λ differ derivation. script_of_derivation sig rules a differ (opening a) derivation.0 derivation.1 (own_term a) 0,
)
