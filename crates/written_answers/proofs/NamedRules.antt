-- Where the numbers of rules are places in a book, the labels of all alternatives are of rules of the book.
use Rattle.std.proofs.Common.{◌≡◌, ℕ, zero, suc, Bool, true, false, not, Option, Some, None, List, [], ◌∷◌, length, ◌<◌, All, filter, find, flat_map, refl, sym, ap, ◌∙◌, subst}
use Rattle.std.specs.Prelude.{if◌then◌else◌}
use Rattle.std.proofs.lemmas.List.Elements.{All-nil, All-cons, All-head, All-tail, All-weaker, All-map, All-filter}
use Rattle.lf_definitions.proofs.Options.{Some-Some}
use Rattle.lf_definitions.specs.Typing.{LfGoal}
use Rattle.lf_definitions.specs.GoalLists.{LfGoals, all_goals, first_goal}
use Rattle.lf_definitions.specs.Signatures.{LfSignature}
use Rattle.applications.specs.Methods.{LfLabel}
use Rattle.applications.specs.Applications.{LfApplication, at_first}
use Rattle.applications.proofs.Labels.{labels_differ}
use Rattle.alternatives.specs.Rules.{LfPhase, normalising, safe, unsafe, LfRule, is_normalising, is_safe, found_by}
use Rattle.alternatives.specs.ListsAfter.{list_after, fresh_after}
use Rattle.alternatives.specs.NormalForms.{has_none, is_lawful, first_lawful, LfNormal, stopped, after_step, step_or_stop, normal_within, most_normalising, normal_form}
use Rattle.alternatives.specs.Alternatives.{safely, LfAlternative, taken, may_be_committed, first_safe, percent_of, chosen_as, ranked, choices_of, committed_or_chosen, as_done, alternatives_from, alternatives}
use Rattle.rule_sets.specs.Books.{Book}
use Rattle.answer_text.specs.Writable.{NamesRule, LastNamesRule, StepNamesRules}
use Rattle.derivations.proofs.SameSteps.{step_of}
use Rattle.derivations.proofs.Lists.{All-flat_map, All-of_map}
use Rattle.derivations.proofs.LastSteps.{All-ranked}

-- An element that is found passes the test, and what is true of all elements is true of it.
pub found_element : {X : Type 0} (P : X → Type 0) (test : X → Bool) (xs : List X) (x : X) → All P xs → find test xs ≡ Some x → (test x ≡ true) × P x
found_element P test [] x all e = absurd cc
found_element P test (y ∷ ys) x all e = step (test y) refl (found_element P test ys x (All-tail P y ys all)) e
  where
    step : (b : Bool) → test y ≡ b → (find test ys ≡ Some x → (test x ≡ true) × P x) → (if b then Some y else find test ys) ≡ Some x → (test x ≡ true) × P x
    step true passes later e = let same = Some-Some e in (ap test (sym same) ∙ passes, subst P same (All-head P y ys all))
    step false passes later e = later e

module _ (book : Book) where
  -- The labels of an alternative are of rules of the book, and so is that of an application; and the number of a rule is a place in the book.
  abbrev pub AlternativeNamesRules : LfAlternative → Type 0
  AlternativeNamesRules alternative = StepNamesRules book (step_of alternative)

  abbrev ApplicationNamesRule : LfApplication → Type 0
  ApplicationNamesRule a = NamesRule book a.label

  abbrev pub IsNumbered : LfRule → Type 0
  IsNumbered rule = rule.number < length book.rules

  -- what a rule finds
  found_name_rules : (sig : LfSignature) (n : ℕ) (list : LfGoals) (rule : LfRule) → IsNumbered rule → All ApplicationNamesRule (found_by sig n list rule)
  found_name_rules sig n list rule holds = step (first_goal list)
    where
      step : (o : Option LfGoal) → All ApplicationNamesRule (at_first sig rule.number rule.method n (all_goals list) o)
      step None = All-nil ApplicationNamesRule
      step (Some g) =
          let found = at_first sig rule.number rule.method n (all_goals list) (Some g) in
          All-weaker (λ (a : LfApplication). a.label.of_rule ≡ rule.number) ApplicationNamesRule (λ a is. subst (λ number. number < length book.rules) (sym is) holds) found
          (All-of_map (λ (l : LfLabel). l.of_rule ≡ rule.number) (λ (a : LfApplication). a.label) found (labels_differ sig rule.number rule.method n (all_goals list) g).0)

  -- the first that counts of what some of the rules find
  first_names_rule : (sig : LfSignature) (n : ℕ) (list : LfGoals) (test : LfRule → Bool) (counts : LfApplication → Bool) (rules : List LfRule) (a : LfApplication) → All IsNumbered rules →
      find counts (flat_map (found_by sig n list) (filter test rules)) ≡ Some a → ApplicationNamesRule a
  first_names_rule sig n list test counts rules a all e =
      let some = filter test rules in
      (found_element ApplicationNamesRule counts (flat_map (found_by sig n list) some) a
      (All-flat_map ApplicationNamesRule (found_by sig n list) some
      (All-weaker IsNumbered (λ rule. All ApplicationNamesRule (found_by sig n list rule)) (found_name_rules sig n list) some (All-filter test IsNumbered rules all))) e).1

  module _ (sig : LfSignature) (rules : List LfRule) (all : All IsNumbered rules) where
    abbrev NormalNamesRules : LfNormal → Type 0
    NormalNamesRules normal = All (NamesRule book) normal.labels

    -- a step of normalisation, before a rest of any such labels
    step_names_rules : (n : ℕ) (list : LfGoals) (onward : ℕ → LfGoals → LfNormal) → ((m : ℕ) (after : LfGoals) → NormalNamesRules (onward m after)) → (o : Option LfApplication) →
        first_lawful sig rules n list ≡ o → NormalNamesRules (step_or_stop n list onward o)
    step_names_rules n list onward later None first = All-nil (NamesRule book)
    step_names_rules n list onward later (Some a) first = step (has_none a.proofs)
      where
        own : ApplicationNamesRule a
        own = first_names_rule sig n list (λ rule. is_normalising rule.phase) is_lawful rules a all first

        step : (b : Bool) → NormalNamesRules (after_step list a (if b then stopped true (fresh_after n a) (list_after list a) else onward (fresh_after n a) (list_after list a)))
        step true = All-cons (NamesRule book) a.label [] own (All-nil (NamesRule book))
        step false = All-cons (NamesRule book) a.label (onward (fresh_after n a) (list_after list a)).labels own (later (fresh_after n a) (list_after list a))

    normal_form_names_rules : (most n : ℕ) (list : LfGoals) → NormalNamesRules (normal_within most sig rules n list)
    normal_form_names_rules zero n list = All-nil (NamesRule book)
    normal_form_names_rules (suc most) n list = step_names_rules n list (normal_within most sig rules) (normal_form_names_rules most) (first_lawful sig rules n list) refl

    chosen_names_rule : (phase : LfPhase) (label : LfLabel) → NamesRule book label → LastNamesRule book (chosen_as phase label)
    chosen_names_rule normalising label holds = holds
    chosen_names_rule safe label holds = holds
    chosen_names_rule (unsafe percent) label holds = holds

    -- the alternatives after a normal form
    module _ (list : LfGoals) (normal : LfNormal) (named : NormalNamesRules normal) where
      choices_name_rules : (rule : LfRule) → IsNumbered rule → All AlternativeNamesRules (choices_of sig list normal rule)
      choices_name_rules rule holds =
          let found = found_by sig normal.fresh normal.goals rule in
          let choice : LfApplication → LfAlternative = λ a. taken list normal (chosen_as rule.phase a.label) (percent_of rule.phase) a in
          All-map AlternativeNamesRules choice found
          (All-weaker ApplicationNamesRule (λ a. AlternativeNamesRules (choice a)) (λ a own. (named, chosen_names_rule rule.phase a.label own)) found (found_name_rules sig normal.fresh normal.goals rule holds))

      last_steps_name_rules : (o : Option LfApplication) → first_safe sig rules normal.fresh normal.goals ≡ o → All AlternativeNamesRules (committed_or_chosen sig rules list normal o)
      last_steps_name_rules (Some a) first =
          All-cons AlternativeNamesRules (taken list normal (safely a.label) 100 a) []
          (named, first_names_rule sig normal.fresh normal.goals (λ rule. is_safe rule.phase) may_be_committed rules a all first) (All-nil AlternativeNamesRules)
      last_steps_name_rules None first =
          let choosing = filter (λ (rule : LfRule). not (is_normalising rule.phase)) rules in
          All-flat_map AlternativeNamesRules (choices_of sig list normal) (ranked choosing)
          (All-weaker IsNumbered (λ rule. All AlternativeNamesRules (choices_of sig list normal rule)) choices_name_rules (ranked choosing)
          (All-ranked IsNumbered choosing (All-filter (λ (rule : LfRule). not (is_normalising rule.phase)) IsNumbered rules all)))

      alternatives_from_name_rules : All AlternativeNamesRules (alternatives_from sig rules list normal)
      alternatives_from_name_rules = step normal.closed (last_steps_name_rules (first_safe sig rules normal.fresh normal.goals) refl)
        where
          step : (b : Bool) → All AlternativeNamesRules (committed_or_chosen sig rules list normal (first_safe sig rules normal.fresh normal.goals)) →
              All AlternativeNamesRules (if b then as_done normal ∷ [] else committed_or_chosen sig rules list normal (first_safe sig rules normal.fresh normal.goals))
          step true others = All-cons AlternativeNamesRules (as_done normal) [] (named, tt) (All-nil AlternativeNamesRules)
          step false others = others

    pub alternatives_name_rules : (n : ℕ) (list : LfGoals) → All AlternativeNamesRules (alternatives sig rules n list)
    unfolding alternatives normal_form
    alternatives_name_rules n list = alternatives_from_name_rules list (normal_form sig rules n list) (normal_form_names_rules most_normalising n list)
