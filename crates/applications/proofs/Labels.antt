-- The labels of what a rule offers, and of its applications: all have the rule's number, and no two have the same choice and hypotheses.
use Rattle.std.proofs.Common.{◌≡◌, ◌≢◌, ℕ, suc, ◌≤◌, Bool, true, false, Option, Some, None, List, [], ◌∷◌, ◌++◌, map, length, All, AllPairs, refl, sym, ap, ap₂, ◌∙◌, subst, arith}
use Rattle.std.specs.Prelude.{if◌then◌else◌}
use Rattle.std.proofs.lemmas.List.{map-append}
use Rattle.std.proofs.lemmas.List.Elements.{All-nil, All-cons, All-head, All-tail, All-weaker, All-map}
use Rattle.std.proofs.lemmas.List.Kept.{AllPairs-cons}
use Rattle.lf_definitions.specs.Syntax.{LfType, constant}
use Rattle.lf_definitions.specs.Typing.{LfGoal, type_at}
use Rattle.lf_definitions.specs.Signatures.{LfSignature, constant_types}
use Rattle.lf_definitions.specs.Instantiation.{LfAssigned, assignment_of}
use Rattle.head_laws.proofs.Numbers.{AllPairs-head, AllPairs-tail}
use Rattle.unification.specs.Equations.{Ending, solved, refused}
use Rattle.lf_functions.specs.Endings.{unifier_of}
use Rattle.applications.specs.Methods.{Method, applies, constructs, splits, goes_forward, takes_apart, assumes, uses_hypotheses, LfLabel, LfCandidate}
use Rattle.applications.specs.Candidates.{places_of, premises_from, LfHypothesis, hypotheses_of, are_atomic, have_binders, backward, where_some, each, constructed, by_hypothesis, without, split, tuples, onward, candidates}
use Rattle.applications.specs.Applications.{LfApplication, freezing, Completion, completion, whole_assignment, goals_left, entries_are_typed, where_typed, completed, application_of, with_some, of_candidates, applications_to}
use Rattle.applications.specs.Laws.{IsAnotherLabel, labels_of, LabelsDiffer}
use Rattle.applications.proofs.Pairs.{one_pair, no_pair, AllPairs-map, everywhere}
use Rattle.applications.proofs.DifferentPlaces.{first_number, HasAnotherPlace, places_differ, AllPairs-are_atomic, AllPairs-have_binders, tuple_places, HasOtherPlaces, tuples_differ}

abbrev label_by : ℕ → ℕ → List ℕ → LfLabel
label_by rule choice places = record { of_rule = rule; choice = choice; hypotheses = places }

abbrev offered_labels : List LfCandidate → List LfLabel
offered_labels cs = map (λ c. c.label) cs

-- What is true of all labels, and what of any two.
pub record Labelled (rule : ℕ) (labels : List LfLabel) : Type 0 where
  pub have_rule : All (λ l. l.of_rule ≡ rule) labels
  pub differ : AllPairs IsAnotherLabel labels

none_labelled : (rule : ℕ) → Labelled rule []
none_labelled rule = record { have_rule = All-nil (λ l. l.of_rule ≡ rule); differ = no_pair IsAnotherLabel }

one_labelled : (rule choice : ℕ) (places : List ℕ) → Labelled rule (label_by rule choice places ∷ [])
one_labelled rule choice places = record {
  have_rule = All-cons (λ l. l.of_rule ≡ rule) (label_by rule choice places) [] refl (All-nil (λ l. l.of_rule ≡ rule));
  differ = one_pair IsAnotherLabel (label_by rule choice places);
}

-- labels by hypotheses that differ, in a way
labelled_by : {X : Type 0} (rule : ℕ) (S : X → X → Type 0) (places : X → List ℕ) → ((x y : X) → S x y → places x ≢ places y) → (xs : List X) → AllPairs S xs →
    Labelled rule (map (λ x. label_by rule 0 (places x)) xs)
labelled_by rule S places apart xs pairs = record {
  have_rule = All-map (λ l. l.of_rule ≡ rule) (λ x. label_by rule 0 (places x)) xs (everywhere (λ x. rule ≡ rule) xs (λ x. refl));
  differ = AllPairs-map IsAnotherLabel S (λ x. label_by rule 0 (places x)) (λ x y s e. apart x y s) xs pairs;
}

by_place : (rule : ℕ) (hs : List LfHypothesis) → AllPairs HasAnotherPlace hs → Labelled rule (map (λ h. label_by rule 0 (h.place ∷ [])) hs)
by_place rule hs pairs = labelled_by rule HasAnotherPlace (λ h. h.place ∷ []) (λ h k differ e. differ (ap first_number e)) hs pairs

by_tuple : (rule : ℕ) (ts : List (List LfHypothesis)) → AllPairs HasOtherPlaces ts → Labelled rule (map (λ hs. label_by rule 0 (tuple_places hs)) ts)
by_tuple rule ts pairs = labelled_by rule HasOtherPlaces tuple_places (λ hs ks differ. differ) ts pairs

-- candidates by a hypothesis, and by a tuple
offered_by_place : (rule : ℕ) (f : LfHypothesis → List LfCandidate) → ((h : LfHypothesis) → offered_labels (f h) ≡ label_by rule 0 (h.place ∷ []) ∷ []) → (hs : List LfHypothesis) →
    offered_labels (each hs f) ≡ map (λ h. label_by rule 0 (h.place ∷ [])) hs
offered_by_place rule f one [] = refl
offered_by_place rule f one (h ∷ rest) = map-append (λ c. c.label) (f h) (each rest f) ∙ ap₂ (λ us vs. us ++ vs) (one h) (offered_by_place rule f one rest)

offered_by_tuple : (rule : ℕ) (f : List LfHypothesis → LfCandidate) → ((hs : List LfHypothesis) → (f hs).label ≡ label_by rule 0 (tuple_places hs)) → (ts : List (List LfHypothesis)) →
    offered_labels (map f ts) ≡ map (λ hs. label_by rule 0 (tuple_places hs)) ts
offered_by_tuple rule f one [] = refl
offered_by_tuple rule f one (hs ∷ rest) = ap₂ (λ l ls. l ∷ ls) (one hs) (offered_by_tuple rule f one rest)

module _ (sig : LfSignature) (rule n : ℕ) (g : LfGoal) where
  of_constant : (c : ℕ) (f : LfType → List LfCandidate) → ((type : LfType) → Labelled rule (offered_labels (f type))) → Labelled rule (offered_labels (where_some (type_at (constant_types sig) c) f))
  of_constant c f labelled = each_way (type_at (constant_types sig) c)
    where
      each_way : (o : Option LfType) → Labelled rule (offered_labels (where_some o f))
      each_way None = none_labelled rule
      each_way (Some a) = labelled a

  all_by_place : (f : LfHypothesis → List LfCandidate) → ((h : LfHypothesis) → offered_labels (f h) ≡ label_by rule 0 (h.place ∷ []) ∷ []) → (hs : List LfHypothesis) → AllPairs HasAnotherPlace hs →
      Labelled rule (offered_labels (each hs f))
  all_by_place f one hs pairs = subst (Labelled rule) (sym (offered_by_place rule f one hs)) (by_place rule hs pairs)

  all_by_tuple : (f : List LfHypothesis → LfCandidate) → ((hs : List LfHypothesis) → (f hs).label ≡ label_by rule 0 (tuple_places hs)) → (count : ℕ) →
      Labelled rule (offered_labels (map f (tuples count (are_atomic (hypotheses_of g.context)))))
  all_by_tuple f one count =
      let ts = tuples count (are_atomic (hypotheses_of g.context)) in
      subst (Labelled rule) (sym (offered_by_tuple rule f one ts))
      (by_tuple rule ts (tuples_differ count (are_atomic (hypotheses_of g.context)) (AllPairs-are_atomic HasAnotherPlace (hypotheses_of g.context) (places_differ g.context 0))))

  -- The choice of a constructor is its place.
  abbrev constructor : ℕ → ℕ → LfType → List LfCandidate
  constructor place c type = backward (label_by rule place []) (constant c) type g n ∷ []

  choices_from : (constants : List ℕ) (place : ℕ) → All (λ l. place ≤ l.choice) (offered_labels (constructed rule sig place constants g n))
  choices_from [] place = All-nil (λ l. place ≤ l.choice)
  choices_from (c ∷ rest) place =
      let P : ℕ → LfLabel → Type 0 = λ k l. k ≤ l.choice in
      let later = constructed rule sig (suc place) rest g n in
      step (type_at (constant_types sig) c)
      (All-weaker (P (suc place)) (P place) (λ l le. omega (arith, le)) (offered_labels later) (choices_from rest (suc place)))
    where
      step : (o : Option LfType) → All (λ l. place ≤ l.choice) (offered_labels (constructed rule sig (suc place) rest g n)) →
          All (λ l. place ≤ l.choice) (offered_labels (where_some o (constructor place c) ++ constructed rule sig (suc place) rest g n))
      step None later = later
      step (Some a) later = All-cons (λ l. place ≤ l.choice) (label_by rule place []) (offered_labels (constructed rule sig (suc place) rest g n)) (omega arith) later

  constructed_labelled : (constants : List ℕ) (place : ℕ) → Labelled rule (offered_labels (constructed rule sig place constants g n))
  constructed_labelled [] place = none_labelled rule
  constructed_labelled (c ∷ rest) place = step (type_at (constant_types sig) c) (constructed_labelled rest (suc place)) (choices_from rest (suc place))
    where
      step : (o : Option LfType) → Labelled rule (offered_labels (constructed rule sig (suc place) rest g n)) →
          All (λ l. suc place ≤ l.choice) (offered_labels (constructed rule sig (suc place) rest g n)) →
          Labelled rule (offered_labels (where_some o (constructor place c) ++ constructed rule sig (suc place) rest g n))
      step None later choices = later
      step (Some a) later choices =
          let labels = offered_labels (constructed rule sig (suc place) rest g n) in
          let label = label_by rule place [] in
          record {
            have_rule = All-cons (λ l. l.of_rule ≡ rule) label labels refl later.have_rule;
            differ = AllPairs-cons IsAnotherLabel label labels (All-weaker (λ l. suc place ≤ l.choice) (IsAnotherLabel label) (λ l le e. absurd (omega (arith, le, e))) labels choices) later.differ;
          }

  candidates_labelled : (method : Method) → Labelled rule (offered_labels (candidates sig rule method g n))
  candidates_labelled (applies c) = of_constant c (constructor 0 c) (λ type. one_labelled rule 0 [])
  candidates_labelled (constructs constants) = constructed_labelled constants 0
  candidates_labelled (splits c major) =
      of_constant c (λ type. each (are_atomic (hypotheses_of g.context)) (split rule c type major g n))
      (λ type. all_by_place (split rule c type major g n) (λ h. refl) (are_atomic (hypotheses_of g.context)) (AllPairs-are_atomic HasAnotherPlace (hypotheses_of g.context) (places_differ g.context 0)))
  candidates_labelled (goes_forward c) =
      of_constant c (λ type. map (onward rule c type g n (places_of g.context)) (tuples (length (premises_from 0 type)) (are_atomic (hypotheses_of g.context))))
      (λ type. all_by_tuple (onward rule c type g n (places_of g.context)) (λ hs. refl) (length (premises_from 0 type)))
  candidates_labelled (takes_apart c) =
      of_constant c (λ type. map (λ hs. onward rule c type g n (without (tuple_places hs) (places_of g.context)) hs) (tuples (length (premises_from 0 type)) (are_atomic (hypotheses_of g.context))))
      (λ type. all_by_tuple (λ hs. onward rule c type g n (without (tuple_places hs) (places_of g.context)) hs) (λ hs. refl) (length (premises_from 0 type)))
  candidates_labelled assumes =
      all_by_place (by_hypothesis rule g n) (λ h. refl) (are_atomic (hypotheses_of g.context)) (AllPairs-are_atomic HasAnotherPlace (hypotheses_of g.context) (places_differ g.context 0))
  candidates_labelled uses_hypotheses =
      all_by_place (by_hypothesis rule g n) (λ h. refl) (have_binders (hypotheses_of g.context)) (AllPairs-have_binders HasAnotherPlace (hypotheses_of g.context) (places_differ g.context 0))

-- An application has the label of its candidate.
abbrev HasLabel : LfLabel → Option LfApplication → Type 0
HasLabel label None = Unit {0}
HasLabel label (Some a) = a.label ≡ label

module _ (sig : LfSignature) (n : ℕ) (goals : List LfGoal) (g : LfGoal) where
  counted_label : (c : LfCandidate) (entries : List LfAssigned) (o : Option Completion) → HasLabel c.label (where_typed sig goals g c entries o)
  counted_label c entries None = tt
  counted_label c entries (Some done) =
      let all = goals ++ c.opened.fresh in
      let σ = assignment_of (whole_assignment all g done.becomes_term entries) in
      step (entries_are_typed sig all σ (goals_left all σ all ++ done.more) all) _ refl
    where
      step : (b : Bool) (a : LfApplication) → a.label ≡ c.label → HasLabel c.label (if b then Some a else None)
      step true a e = e
      step false a e = tt

  application_label : (c : LfCandidate) → HasLabel c.label (application_of sig n goals g c)
  application_label c = step (unifier_of sig (goals ++ c.opened.fresh) g.context (freezing c.outcome goals g) c.equations)
    where
      step : (end : Ending) → HasLabel c.label (completed sig n goals g c end)
      step (refused reason) = tt
      step (solved entries) = counted_label c entries (completion n (goals ++ c.opened.fresh) g c (assignment_of entries) c.outcome)

  -- So what is true of the labels of candidates is true of those of applications.
  All-labels : (P : LfLabel → Type 0) (cs : List LfCandidate) → All P (offered_labels cs) → All P (labels_of (of_candidates sig n goals g cs))
  All-labels P [] all = all
  All-labels P (c ∷ rest) all = step (application_of sig n goals g c) (application_label c) (All-labels P rest (All-tail P c.label (offered_labels rest) all))
    where
      step : (o : Option LfApplication) → HasLabel c.label o → All P (labels_of (of_candidates sig n goals g rest)) → All P (labels_of (with_some o (of_candidates sig n goals g rest)))
      step None e later = later
      step (Some a) e later = All-cons P a.label (labels_of (of_candidates sig n goals g rest)) (subst P (sym e) (All-head P c.label (offered_labels rest) all)) later

  AllPairs-labels : (R : LfLabel → LfLabel → Type 0) (cs : List LfCandidate) → AllPairs R (offered_labels cs) → AllPairs R (labels_of (of_candidates sig n goals g cs))
  AllPairs-labels R [] pairs = pairs
  AllPairs-labels R (c ∷ rest) pairs =
      step (application_of sig n goals g c) (application_label c) (AllPairs-labels R rest (AllPairs-tail R c.label (offered_labels rest) pairs))
      (All-labels (R c.label) rest (AllPairs-head R c.label (offered_labels rest) pairs))
    where
      step : (o : Option LfApplication) → HasLabel c.label o → AllPairs R (labels_of (of_candidates sig n goals g rest)) → All (R c.label) (labels_of (of_candidates sig n goals g rest)) →
          AllPairs R (labels_of (with_some o (of_candidates sig n goals g rest)))
      step None e later first = later
      step (Some a) e later first =
          let labels = labels_of (of_candidates sig n goals g rest) in
          AllPairs-cons R a.label labels (subst (λ l. All (R l) labels) (sym e) first) later

pub labels_differ : LabelsDiffer
unfolding applications_to
labels_differ sig rule method n goals g =
    let cs = candidates sig rule method g n in
    let labelled = candidates_labelled sig rule n g method in
    (All-labels sig n goals g (λ l. l.of_rule ≡ rule) cs labelled.have_rule, AllPairs-labels sig n goals g IsAnotherLabel cs labelled.differ)
