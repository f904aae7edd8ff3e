-- The last steps of a list's alternatives differ: by the labels of one rule, and by the numbers of two.
use Rattle.std.proofs.Common.{◌≡◌, ◌≢◌, ℕ, Bool, true, false, not, Option, Some, None, List, [], ◌∷◌, All, AllPairs, filter, refl, sym, ap, ◌∙◌}
use Rattle.std.specs.Prelude.{if◌then◌else◌}
use Rattle.std.proofs.lemmas.List.Elements.{All-nil, All-cons, All-head, All-tail, All-weaker, All-map}
use Rattle.std.proofs.lemmas.List.Kept.{AllPairs-cons, AllPairs-filter}
use Rattle.head_laws.proofs.Numbers.{AllPairs-head, AllPairs-tail}
use Rattle.lf_definitions.specs.Typing.{LfGoal}
use Rattle.lf_definitions.specs.GoalLists.{LfGoals, all_goals, first_goal}
use Rattle.lf_definitions.specs.Signatures.{LfSignature}
use Rattle.applications.specs.Methods.{LfLabel}
use Rattle.applications.specs.Applications.{LfApplication, at_first}
use Rattle.applications.specs.Laws.{IsAnotherLabel, labels_of}
use Rattle.applications.proofs.Pairs.{one_pair, no_pair, AllPairs-map}
use Rattle.applications.proofs.Labels.{labels_differ}
use Rattle.alternatives.specs.Rules.{LfPhase, normalising, safe, unsafe, LfRule, is_normalising, found_by}
use Rattle.alternatives.specs.NormalForms.{LfNormal, normal_form}
use Rattle.alternatives.specs.Alternatives.{LfLast, done, safely, unsafely, late, LfAlternative, taken, first_safe, percent_of, chosen_as, ranks_before, ranked_with, ranked, choices_of, as_done, committed_or_chosen, alternatives_from, alternatives}
use Rattle.derivations.specs.Laws.{AlternativesDiffer}
use Rattle.derivations.proofs.Lists.{All-of_map, AllPairs-of_map, AllPairs-flat_map}

-- Ranking keeps the rules.
pub All-ranked_with : (P : LfRule → Type 0) (rule : LfRule) (rest : List LfRule) → P rule → All P rest → All P (ranked_with rule rest)
All-ranked_with P rule [] holds all = All-cons P rule [] holds all
All-ranked_with P rule (other ∷ rest) holds all = step (ranks_before other rule) (All-ranked_with P rule rest holds (All-tail P other rest all))
  where
    step : (b : Bool) → All P (ranked_with rule rest) → All P (if b then other ∷ ranked_with rule rest else rule ∷ other ∷ rest)
    step true later = All-cons P other (ranked_with rule rest) (All-head P other rest all) later
    step false later = All-cons P rule (other ∷ rest) holds all

pub All-ranked : (P : LfRule → Type 0) (rules : List LfRule) → All P rules → All P (ranked rules)
All-ranked P [] all = all
All-ranked P (rule ∷ rest) all = All-ranked_with P rule (ranked rest) (All-head P rule rest all) (All-ranked P rest (All-tail P rule rest all))

module _ (R : LfRule → LfRule → Type 0) (turned : (rule other : LfRule) → R rule other → R other rule) where
  AllPairs-ranked_with : (rule : LfRule) (rest : List LfRule) → All (R rule) rest → AllPairs R rest → AllPairs R (ranked_with rule rest)
  AllPairs-ranked_with rule [] first pairs = one_pair R rule
  AllPairs-ranked_with rule (other ∷ rest) first pairs =
      step (ranks_before other rule) (AllPairs-ranked_with rule rest (All-tail (R rule) other rest first) (AllPairs-tail R other rest pairs))
    where
      step : (b : Bool) → AllPairs R (ranked_with rule rest) → AllPairs R (if b then other ∷ ranked_with rule rest else rule ∷ other ∷ rest)
      step true later =
          AllPairs-cons R other (ranked_with rule rest)
          (All-ranked_with (R other) rule rest (turned rule other (All-head (R rule) other rest first)) (AllPairs-head R other rest pairs)) later
      step false later = AllPairs-cons R rule (other ∷ rest) first pairs

  pub AllPairs-ranked : (rules : List LfRule) → AllPairs R rules → AllPairs R (ranked rules)
  AllPairs-ranked [] pairs = pairs
  AllPairs-ranked (rule ∷ rest) pairs =
      AllPairs-ranked_with rule (ranked rest) (All-ranked (R rule) rest (AllPairs-head R rule rest pairs)) (AllPairs-ranked rest (AllPairs-tail R rule rest pairs))

-- the label of a last step, where it has one
abbrev last_label : LfLast → LfLabel
last_label done = record { of_rule = 0; choice = 0; hypotheses = [] }
last_label (safely label) = label
last_label (unsafely label) = label
last_label (late label) = label

chosen_label : (phase : LfPhase) (label : LfLabel) → last_label (chosen_as phase label) ≡ label
chosen_label normalising label = refl
chosen_label safe label = refl
chosen_label (unsafe percent) label = refl

abbrev pub HasAnotherLast : LfAlternative → LfAlternative → Type 0
HasAnotherLast a b = a.last ≢ b.last

abbrev pub HasAnotherNumber : LfRule → LfRule → Type 0
HasAnotherNumber rule other = rule.number ≢ other.number

-- an alternative whose last step is of a rule
abbrev IsOfRule : LfRule → LfAlternative → Type 0
IsOfRule rule a = (last_label a.last).of_rule ≡ rule.number

-- The labels of what a rule finds.
module _ (sig : LfSignature) (n : ℕ) (list : LfGoals) (rule : LfRule) where
  found_labels : All (λ l. l.of_rule ≡ rule.number) (labels_of (found_by sig n list rule)) × AllPairs IsAnotherLabel (labels_of (found_by sig n list rule))
  found_labels = step (first_goal list)
    where
      step : (o : Option LfGoal) →
          All (λ l. l.of_rule ≡ rule.number) (labels_of (at_first sig rule.number rule.method n (all_goals list) o))
          × AllPairs IsAnotherLabel (labels_of (at_first sig rule.number rule.method n (all_goals list) o))
      step None = (All-nil (λ l. l.of_rule ≡ rule.number), no_pair IsAnotherLabel)
      step (Some g) = labels_differ sig rule.number rule.method n (all_goals list) g

-- Choices of one rule differ, and so do those of rules with different numbers.
module _ (sig : LfSignature) (list : LfGoals) (normal : LfNormal) where
  abbrev choice : LfRule → LfApplication → LfAlternative
  choice rule a = taken list normal (chosen_as rule.phase a.label) (percent_of rule.phase) a

  choices_are_of_rule : (rule : LfRule) → All (IsOfRule rule) (choices_of sig list normal rule)
  choices_are_of_rule rule =
      let found = found_by sig normal.fresh normal.goals rule in
      All-map (IsOfRule rule) (choice rule) found
      (All-weaker (λ a. a.label.of_rule ≡ rule.number) (λ a. IsOfRule rule (choice rule a)) (λ a of_rule. ap (λ l. l.of_rule) (chosen_label rule.phase a.label) ∙ of_rule) found
      (All-of_map (λ l. l.of_rule ≡ rule.number) (λ a. a.label) found (found_labels sig normal.fresh normal.goals rule).0))

  choices_differ : (rule : LfRule) → AllPairs HasAnotherLast (choices_of sig list normal rule)
  choices_differ rule =
      let found = found_by sig normal.fresh normal.goals rule in
      AllPairs-map HasAnotherLast (λ a b. IsAnotherLabel a.label b.label) (choice rule) (λ a b another same. other_labels a.label b.label another same) found
      (AllPairs-of_map IsAnotherLabel (λ a. a.label) found (found_labels sig normal.fresh normal.goals rule).1)
    where
      other_labels : (l k : LfLabel) → IsAnotherLabel l k → chosen_as rule.phase l ≢ chosen_as rule.phase k
      other_labels l k another same =
          let e : l ≡ k = sym (chosen_label rule.phase l) ∙ ap last_label same ∙ chosen_label rule.phase k in
          another (ap (λ x. x.choice) e) (ap (λ x. x.hypotheses) e)

  rules_apart : (rule other : LfRule) (a b : LfAlternative) → HasAnotherNumber rule other → IsOfRule rule a → IsOfRule other b → HasAnotherLast a b
  rules_apart rule other a b differ of_rule of_other same = differ (sym of_rule ∙ ap (λ l. (last_label l).of_rule) same ∙ of_other)

  -- So all alternatives after a normal form differ.
  module _ (rules : List LfRule) (differ : AllPairs HasAnotherNumber rules) where
    all_choices_differ : AllPairs HasAnotherLast (committed_or_chosen sig rules list normal None)
    all_choices_differ =
        let choosing = filter (λ rule. not (is_normalising rule.phase)) rules in
        AllPairs-flat_map HasAnotherNumber HasAnotherLast IsOfRule rules_apart (choices_of sig list normal) choices_are_of_rule choices_differ (ranked choosing)
        (AllPairs-ranked HasAnotherNumber (λ rule other apart same. apart (sym same)) choosing (AllPairs-filter HasAnotherNumber (λ rule. not (is_normalising rule.phase)) rules differ))

    committed_or_chosen_differ : (o : Option LfApplication) → AllPairs HasAnotherLast (committed_or_chosen sig rules list normal o)
    committed_or_chosen_differ (Some a) = one_pair HasAnotherLast (taken list normal (safely a.label) 100 a)
    committed_or_chosen_differ None = all_choices_differ

    pub alternatives_from_differ : AllPairs HasAnotherLast (alternatives_from sig rules list normal)
    alternatives_from_differ = step normal.closed (committed_or_chosen_differ (first_safe sig rules normal.fresh normal.goals))
      where
        step : (b : Bool) → AllPairs HasAnotherLast (committed_or_chosen sig rules list normal (first_safe sig rules normal.fresh normal.goals)) →
            AllPairs HasAnotherLast (if b then as_done normal ∷ [] else committed_or_chosen sig rules list normal (first_safe sig rules normal.fresh normal.goals))
        step true others = one_pair HasAnotherLast (as_done normal)
        step false others = others

pub alternatives_differ : AlternativesDiffer
unfolding alternatives
alternatives_differ sig rules differ n list = alternatives_from_differ sig list (normal_form sig rules n list) rules differ
