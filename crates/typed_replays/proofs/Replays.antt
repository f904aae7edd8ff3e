-- What a script closes is typed, by recursion over the script.
use Rattle.std.proofs.Common.{◌≡◌, ℕ, suc, Bool, true, false, Option, Some, None, List, [], ◌∷◌, All, length, refl, subst}
use Rattle.std.specs.Prelude.{if◌then◌else◌, find}
use Rattle.lf_definitions.specs.Syntax.{metavariable, LfTerm, lams, LfType, binders_of}
use Rattle.lf_definitions.specs.Occurrence.{OccursIn}
use Rattle.lf_definitions.specs.Typing.{Typed, Formed, LfGoal}
use Rattle.lf_definitions.specs.Signatures.{LfSignature, FormedSignature, kinds_in, typing_in}
use Rattle.lf_definitions.specs.GoalLists.{LfGoals, all_goals, next_id, opening, FormedGoals}
use Rattle.lf_definitions.specs.Instantiation.{assignment_of}
use Rattle.lf_functions.specs.Instances.{instance_of}
use Rattle.application_laws.specs.Conditions.{TakesAtoms}
use Rattle.alternatives.specs.Rules.{LfRule}
use Rattle.alternatives.specs.NormalForms.{has_none}
use Rattle.alternatives.specs.Alternatives.{LfAlternative}
use Rattle.derivations.specs.Derivations.{alternatives_of}
use Rattle.derivations.specs.Replays.{LfStep, is_step_of, LfReplayed, closed, steps_left, goals_left_after, own_term, followed, replayed_from, replay}
use Rattle.step_laws.proofs.Numbers.{all_below_above}
use Rattle.taken_alternatives.proofs.Lists.{All-find}
use Rattle.typed_steps.specs.Laws.{KeepsTypes, MayBeTyped}
use Rattle.typed_steps.proofs.Alternatives.{alternatives_keep_types}
use Rattle.typed_replays.specs.Laws.{ReplayedTermsAreTyped}
use Rattle.typed_replays.proofs.Theorems.{IsProof, carried_on, closes_theorem, opening_formed, opening_typed}

module _ (sig : LfSignature) (of_sig : FormedSignature sig) (rules : List LfRule) (atoms : All (λ rule. TakesAtoms sig rule.method) rules) (a : LfType) (formed : Formed (kinds_in sig) (typing_in sig [] []) a) where
  abbrev IsTheorem : LfTerm → Type 0
  IsTheorem t = Typed (typing_in sig [] []) t a × ((m : ℕ) → OccursIn (metavariable m) t → ⊥)

  no_goal : (goals : List LfGoal) → has_none goals ≡ true → goals ≡ []
  no_goal [] e = refl
  no_goal (g ∷ rest) e = absurd cc

  may : (list : LfGoals) → FormedGoals sig (all_goals list) → MayBeTyped sig rules (next_id list) list
  may list formed_list = record { signature = of_sig; goals = formed_list; below = all_below_above (all_goals list); rules_take_atoms = atoms }

  -- What is to be shown of a script, whatever goals are left before it.
  abbrev GivesTheorems : List LfStep → Type 0
  GivesTheorems script =
      (list : LfGoals) (t : LfTerm) (k : ℕ) → FormedGoals sig (all_goals list) → IsProof sig of_sig a formed (all_goals list) t → (u : LfTerm) → replayed_from sig rules a list t k script ≡ closed u → IsTheorem u

  at_end : GivesTheorems []
  at_end list t k formed_list typed u e = step (has_none (all_goals list)) refl e
    where
      step : (b : Bool) → has_none (all_goals list) ≡ b → (if b then closed (lams (length (binders_of a)) t) else goals_left_after k) ≡ closed u → IsTheorem u
      step true none is =
          let same : lams (length (binders_of a)) t ≡ u = cc in
          subst IsTheorem same (closes_theorem sig of_sig a formed t (subst (λ goals. IsProof sig of_sig a formed goals t) (no_goal (all_goals list) none) typed))
      step false some is = absurd cc

  one_step : (first : LfStep) (rest : List LfStep) → GivesTheorems rest → GivesTheorems (first ∷ rest)
  one_step first rest later list t k formed_list typed u e = step (has_none (all_goals list)) e
    where
      onward : LfAlternative → LfReplayed
      onward alternative = replayed_from sig rules a alternative.goals (instance_of (all_goals list) (assignment_of alternative.build) t) (suc k) rest

      by_alternative : (o : Option LfAlternative) → find (is_step_of first) (alternatives_of sig rules list) ≡ o → followed k onward o ≡ closed u → IsTheorem u
      by_alternative None is f = absurd cc
      by_alternative (Some alternative) is f =
          let keeps = All-find (λ (x : LfAlternative). KeepsTypes sig list x.goals x.build) (is_step_of first) (alternatives_of sig rules list)
          (alternatives_keep_types sig rules (next_id list) list (may list formed_list)) alternative is in
          later alternative.goals (instance_of (all_goals list) (assignment_of alternative.build) t) (suc k) keeps.formed
          (carried_on sig of_sig a formed (all_goals list) (all_goals alternative.goals) (assignment_of alternative.build) keeps.takes_goals t typed) u f

      step : (b : Bool) → (if b then steps_left k else followed k onward (find (is_step_of first) (alternatives_of sig rules list))) ≡ closed u → IsTheorem u
      step true f = absurd cc
      step false f = by_alternative (find (is_step_of first) (alternatives_of sig rules list)) refl f

  replayed_typed : (script : List LfStep) → GivesTheorems script
  replayed_typed [] = at_end
  replayed_typed (first ∷ rest) = one_step first rest (replayed_typed rest)

pub replayed_terms_are_typed : ReplayedTermsAreTyped
unfolding replay
replayed_terms_are_typed sig of_sig rules atoms a formed script t e =
    replayed_typed sig of_sig rules atoms a formed script (opening a) (own_term a) 0 (opening_formed sig of_sig a formed) (opening_typed sig of_sig a formed) t e
