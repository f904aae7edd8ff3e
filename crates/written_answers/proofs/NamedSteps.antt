-- The steps of a script that closes name rules of the book.
use Rattle.std.proofs.Common.{◌≡◌, ℕ, suc, Bool, true, false, Option, Some, None, List, [], ◌∷◌, All, find, refl, sym, subst}
use Rattle.std.specs.Prelude.{if◌then◌else◌, slice_get, option_map}
use Rattle.std.specs.List.{cons_option}
use Rattle.std.proofs.lemmas.List.Elements.{All-nil, All-cons}
use Rattle.std.proofs.lemmas.Option.{slice_get_within}
use Rattle.lf_definitions.specs.Syntax.{LfTerm, LfType}
use Rattle.lf_definitions.specs.Signatures.{LfSignature}
use Rattle.lf_definitions.specs.GoalLists.{LfGoals, all_goals, next_id, opening}
use Rattle.lf_definitions.specs.Instantiation.{assignment_of}
use Rattle.lf_functions.specs.Instances.{instance_of}
use Rattle.alternatives.specs.Rules.{LfRule}
use Rattle.alternatives.specs.NormalForms.{has_none}
use Rattle.alternatives.specs.Alternatives.{LfAlternative}
use Rattle.derivations.specs.Derivations.{alternatives_of}
use Rattle.derivations.specs.Replays.{LfStep, is_step_of, LfReplayed, closed, steps_left, own_term, followed, replayed_from, replay}
use Rattle.derivations.proofs.SameSteps.{is_step_of_decides}
use Rattle.rule_sets.specs.declared.rule.Rule.{Rule}
use Rattle.rule_sets.specs.Books.{Book}
use Rattle.goal_book.specs.Rules.{numbered, rules_of}
use Rattle.answer_text.specs.Writable.{NamesRule, LastNamesRule, StepNamesRules}
use Rattle.written_answers.proofs.NamedRules.{found_element, AlternativeNamesRules, IsNumbered, alternatives_name_rules}

-- The rules of a book have places in it as their numbers.
pub rules_have_places : (book : Book) (numbers : List ℕ) → All (IsNumbered book) (rules_of book numbers)
rules_have_places book [] = All-nil (IsNumbered book)
rules_have_places book (n ∷ rest) = step (slice_get book.rules n) refl (rules_have_places book rest)
  where
    step : (o : Option Rule) → slice_get book.rules n ≡ o → All (IsNumbered book) (rules_of book rest) →
        All (IsNumbered book) (cons_option (option_map (numbered book.lists n) o) (rules_of book rest))
    step None is later = later
    step (Some rule) is later = All-cons (IsNumbered book) (numbered book.lists n rule) (rules_of book rest) (slice_get_within book.rules n rule is) later

module _ (book : Book) (sig : LfSignature) (rules : List LfRule) (numbered_rules : All (IsNumbered book) rules) where
  -- the step of an alternative
  step_names : (list : LfGoals) (step : LfStep) (alternative : LfAlternative) → find (is_step_of step) (alternatives_of sig rules list) ≡ Some alternative → StepNamesRules book step
  step_names list step alternative found =
      let found_one = found_element (AlternativeNamesRules book) (is_step_of step) (alternatives_of sig rules list) alternative
      (alternatives_name_rules book sig rules numbered_rules (next_id list) list) found in
      let same = (is_step_of_decides step alternative).0 found_one.0 in
      (subst (All (NamesRule book)) (sym same.0) found_one.1.0, subst (LastNamesRule book) (sym same.1) found_one.1.1)

  one_step_names : (list : LfGoals) (step : LfStep) (rest : List LfStep) (onward : LfAlternative → LfReplayed) (k : ℕ) (u : LfTerm) →
      ((alternative : LfAlternative) → onward alternative ≡ closed u → All (StepNamesRules book) rest) → (b : Bool) (o : Option LfAlternative) →
      find (is_step_of step) (alternatives_of sig rules list) ≡ o → (if b then steps_left k else followed k onward o) ≡ closed u → All (StepNamesRules book) (step ∷ rest)
  one_step_names list step rest onward k u later true o found e = absurd cc
  one_step_names list step rest onward k u later false None found e = absurd cc
  one_step_names list step rest onward k u later false (Some alternative) found e = All-cons (StepNamesRules book) step rest (step_names list step alternative found) (later alternative e)

  script_names : (a : LfType) (script : List LfStep) (list : LfGoals) (t : LfTerm) (k : ℕ) (u : LfTerm) → replayed_from sig rules a list t k script ≡ closed u → All (StepNamesRules book) script
  script_names a [] list t k u e = All-nil (StepNamesRules book)
  script_names a (step ∷ rest) list t k u e =
      let onto : LfAlternative → LfTerm = λ alternative. instance_of (all_goals list) (assignment_of alternative.build) t in
      one_step_names list step rest (λ alternative. replayed_from sig rules a alternative.goals (onto alternative) (suc k) rest) k u
      (λ alternative. script_names a rest alternative.goals (onto alternative) (suc k) u) (has_none (all_goals list)) (find (is_step_of step) (alternatives_of sig rules list)) refl e

  pub closing_script_names : (a : LfType) (script : List LfStep) (u : LfTerm) → replay sig rules a script ≡ closed u → All (StepNamesRules book) script
  unfolding replay
  closing_script_names a script u e = script_names a script (opening a) (own_term a) 0 u e
