-- Whatever a rule offers may be used.
use Rattle.std.proofs.Common.{◌≡◌, ℕ, suc, ◌+◌, ◌<◌, ◌≤◌, Bool, true, false, Some, List, [], ◌∷◌, map, All, AllPairs, length, refl, sym, ap, ◌∙◌, subst, arith}
use Rattle.std.specs.Prelude.{◌≢◌, not, ◌&&◌, ◌||◌, if◌then◌else◌}
use Rattle.std.proofs.lemmas.List.Elements.{All-nil, All-cons, All-append, All-contains, All-map, All-weaker}
use Rattle.lf_definitions.specs.Syntax.{metavariable, constant, LfType, atomic, conclusion_atom}
use Rattle.lf_definitions.specs.ShapedGoals.{scope_in, kind_shapes_in, ShapedSignature, ShapedGoal, ShapedGoals}
use Rattle.lf_definitions.specs.Typing.{LfGoal, type_at}
use Rattle.lf_definitions.specs.Signatures.{LfSignature, constant_types}
use Rattle.head_laws.specs.Mentions.{occurs_in_spine}
use Rattle.opening_laws.specs.Openings.{context_variable}
use Rattle.opening_laws.specs.Conditions.{FixesArgument, MayBeOpened}
use Rattle.opening_laws.proofs.Kept.{under_all-context_variable}
use Rattle.applications.specs.OpenedTypes.{opening_of}
use Rattle.applications.specs.Methods.{Method, LfLabel, applies, constructs, splits, goes_forward, takes_apart, assumes, uses_hypotheses, LfCandidate}
use Rattle.applications.specs.Candidates.{places_of, LfHypothesis, hypotheses_of, are_atomic, have_binders, backward, constructed, by_hypothesis, argument_type, mentioned_by_others, occurs_later, occurs_at_end, without, drops, kept_by_splitting, split, onward, tuples, premises_from, candidates}
use Rattle.application_laws.specs.Conditions.{HasAtomAt, TakesAtoms, MayBeUsed}
use Rattle.application_laws.specs.Laws.{CandidatesMayBeUsed}
use Rattle.application_laws.proofs.Lists.{All-where_some, All-each, All-are_atomic, All-have_binders, All-tuples, numbers_within, numbers_rise}
use Rattle.application_laws.proofs.Hypotheses.{IsHypothesisFrom, all_hypotheses}
use Rattle.application_laws.proofs.Arguments.{in_context, BothAre, constant_has_shape, constant_is_closed, constant_is_shaped, constant_mentions_none}
use Rattle.application_laws.proofs.Usable.{IsGoodAtom, known_opening, end_is_good, target_is_good, argument_is_good, usable, marks_count, opened_with_all, backward_is_usable}
use Rattle.application_laws.proofs.Onward.{IsAtom, argument_fits, hypothesis_is_good, onward_is_usable}
use Rattle.application_laws.proofs.Dropping.{All-without, AllPairs-without, kept_entries_mention, binders_mention}

no_goal : (c m : ℕ) → metavariable m ≡ constant c → ⊥
no_goal c m e = absurd cc

-- the first and the second condition of a split that drops
first_of_three : (a b c : Bool) → not a && (not b && c) ≡ true → a ≡ false
first_of_three true b c e = absurd cc
first_of_three false b c e = refl

second_of_three : (a b c : Bool) → not a && (not b && c) ≡ true → b ≡ false
second_of_three true b c e = absurd cc
second_of_three false true c e = absurd cc
second_of_three false false c e = refl

module _ (sig : LfSignature) (shaped_sig : ShapedSignature sig) (goals : List LfGoal) (shaped : ShapedGoals sig goals) (n : ℕ) (below : All (λ h. h.id < n) goals) (g : LfGoal) (is_one : ShapedGoal sig goals g) where
  abbrev May : LfCandidate → Type 0
  May = MayBeUsed sig goals n g

  abbrev IsHypothesis : LfHypothesis → Type 0
  IsHypothesis = IsHypothesisFrom (kind_shapes_in sig) (scope_in sig goals []) 0 g.context

  hypotheses_known : All IsHypothesis (hypotheses_of g.context)
  hypotheses_known = all_hypotheses (kind_shapes_in sig) (scope_in sig goals []) 0 g.context is_one.0

  atoms_known : All (IsAtom sig goals shaped n below g is_one) (are_atomic (hypotheses_of g.context))
  atoms_known = All-are_atomic IsHypothesis (hypotheses_of g.context) hypotheses_known

  one : (c : LfCandidate) → May c → All May (c ∷ [])
  one c may = All-cons May c [] may (All-nil May)

  constant_usable : (rule choice c : ℕ) (type : LfType) → type_at (constant_types sig) c ≡ Some type → May (backward (record { of_rule = rule; choice = choice; hypotheses = [] }) (constant c) type g n)
  constant_usable rule choice c type is =
      backward_is_usable sig goals shaped n below g is_one (record { of_rule = rule; choice = choice; hypotheses = [] }) (constant c) type (constant_has_shape sig shaped_sig c type is goals g.context) (no_goal c)
      (constant_is_shaped sig shaped_sig c type is goals g.context) (λ m o. absurd (constant_mentions_none sig shaped_sig c type is m o))

  constructed_usable : (rule place : ℕ) (constants : List ℕ) → All May (constructed rule sig place constants g n)
  constructed_usable rule place [] = All-nil May
  constructed_usable rule place (c ∷ rest) =
      let here = λ (type : LfType). backward (record { of_rule = rule; choice = place; hypotheses = [] }) (constant c) type g n ∷ [] in
      All-append May _ (constructed rule sig (suc place) rest g n)
      (All-where_some May (type_at (constant_types sig) c) here (λ type is. one (backward (record { of_rule = rule; choice = place; hypotheses = [] }) (constant c) type g n) (constant_usable rule place c type is)))
      (constructed_usable rule (suc place) rest)

  hypothesis_usable : (rule : ℕ) (h : LfHypothesis) → IsHypothesis h → All May (by_hypothesis rule g n h)
  hypothesis_usable rule h (k, a, at_place, there, same, shaped_type, mentions) =
      let place : k ≡ h.place = omega (arith, at_place) in
      let label : LfLabel = record { of_rule = rule; choice = 0; hypotheses = h.place ∷ [] } in
      let has_shape = under_all-context_variable g.context (scope_in sig goals []) h.place a (subst (λ p. type_at g.context p ≡ Some a) place there) ∙ ap Some (sym same) in
      one (backward label (context_variable (length g.context) h.place) h.type g n)
      (backward_is_usable sig goals shaped n below g is_one label (context_variable (length g.context) h.place) h.type has_shape (λ m e. absurd cc) shaped_type
      (λ m o. in_context (metavariable m) g.context (atomic g.target) (mentions m o)))

  -- A split may keep all, or all but its hypothesis.
  pub split_fits : (type : LfType) (major : ℕ) (h : LfHypothesis) → HasAtomAt type major → IsAtom sig goals shaped n below g is_one h → All (FixesArgument g.context type) ((major, h.place) ∷ [])
  split_fits type major h has atom =
      All-cons (FixesArgument g.context type) (major, h.place) [] (argument_fits sig goals shaped n below g is_one type major h has atom) (All-nil (FixesArgument g.context type))

  once : (major place : ℕ) → AllPairs {X = ℕ × ℕ} (λ x y. x.0 ≢ y.0) ((major, place) ∷ [])
  once major place i j d less within = absurd (omega (arith, less, within))

  split_dropping : (c : ℕ) (type : LfType) → type_at (constant_types sig) c ≡ Some type → (major : ℕ) (h : LfHypothesis) → All (FixesArgument g.context type) ((major, h.place) ∷ []) →
      drops type major g h.place ≡ true → MayBeOpened sig goals g.context (without (h.place ∷ []) (places_of g.context)) ((major, h.place) ∷ []) n type
  split_dropping c type is major h fits drop =
      let last = occurs_at_end type major || not (occurs_in_spine (context_variable (length g.context) h.place) g.target.atom_args) in
      let others = first_of_three (mentioned_by_others g.context h.place) (occurs_later type major) last drop in
      let later = second_of_three (mentioned_by_others g.context h.place) (occurs_later type major) last drop in
      let places = All-weaker (λ m. (0 ≤ m) × (m < 0 + length g.context)) (λ m. m < length g.context) (λ m both. let high = both.1 in omega (arith, high)) (places_of g.context) (numbers_within 0 (length g.context)) in record {
        goals_differ = shaped.0;
        goals_are_below = below;
        context_is_shaped = is_one.0;
        type_is_shaped = constant_is_shaped sig shaped_sig c type is goals g.context;
        kept_rise = AllPairs-without (λ x y. x < y) (h.place ∷ []) (places_of g.context) (numbers_rise 0 (length g.context));
        kept_are_places = All-without (λ m. m < length g.context) (h.place ∷ []) (places_of g.context) places;
        kept_mention_kept = λ q a kept there. kept_entries_mention g.context h.place others q a there;
        fixed_once = once major h.place;
        fixed_fit = fits;
        others_mention_kept = λ i a there free. binders_mention g.context h.place sig type (constant_is_closed sig shaped_sig c type is) major later i a there;
      }

  pub split_may : (c : ℕ) (type : LfType) → type_at (constant_types sig) c ≡ Some type → (major : ℕ) (h : LfHypothesis) → All (FixesArgument g.context type) ((major, h.place) ∷ []) →
      MayBeOpened sig goals g.context (kept_by_splitting type major g h.place) ((major, h.place) ∷ []) n type
  split_may c type is major h fits = step (drops type major g h.place) refl
    where
      step : (b : Bool) → drops type major g h.place ≡ b → MayBeOpened sig goals g.context (if b then without (h.place ∷ []) (places_of g.context) else places_of g.context) ((major, h.place) ∷ []) n type
      step true drop = split_dropping c type is major h fits drop
      step false drop = opened_with_all sig goals shaped n below g is_one ((major, h.place) ∷ []) type (constant_is_shaped sig shaped_sig c type is goals g.context) (once major h.place) fits

  pub split_usable : (rule c major : ℕ) (type : LfType) → type_at (constant_types sig) c ≡ Some type → HasAtomAt type major → (h : LfHypothesis) → IsAtom sig goals shaped n below g is_one h →
      All May (split rule c type major g n h)
  split_usable rule c major type is has h atom =
      let fixed = (major, h.place) ∷ [] in
      let kept = kept_by_splitting type major g h.place in
      let may = split_may c type is major h (split_fits type major h has atom) in
      let opened = opening_of g.context kept fixed n type in
      let known = known_opening sig goals shaped n below g is_one kept fixed type (λ m o. absurd (constant_mentions_none sig shaped_sig c type is m o)) may opened refl in
      let good = IsGoodAtom sig goals n g opened in
      one _
      (usable sig goals shaped n below g is_one _ kept fixed type may refl known (marks_count fixed 0 type) (constant_has_shape sig shaped_sig c type is goals g.context) (no_goal c)
      (All-cons (BothAre good) (argument_type type opened major, conclusion_atom h.type) ((opened.end, g.target) ∷ [])
      (argument_is_good sig goals shaped n below g is_one type opened known major has.0 has.1 has.2, hypothesis_is_good sig goals shaped n below g is_one opened h atom)
      (All-cons (BothAre good) (opened.end, g.target) [] (end_is_good sig goals shaped n below g is_one type opened known, target_is_good sig goals shaped n below g is_one type opened known) (All-nil (BothAre good)))))

  onward_usable : (rule c : ℕ) (type : LfType) → type_at (constant_types sig) c ≡ Some type → All (HasAtomAt type) (premises_from 0 type) → (kept : List LfHypothesis → List ℕ) →
      All May (map (λ hs. onward rule c type g n (kept hs) hs) (tuples (length (premises_from 0 type)) (are_atomic (hypotheses_of g.context))))
  onward_usable rule c type is atoms kept =
      let found = tuples (length (premises_from 0 type)) (are_atomic (hypotheses_of g.context)) in
      All-map May (λ hs. onward rule c type g n (kept hs) hs) found
      (All-weaker (All (IsAtom sig goals shaped n below g is_one)) (λ hs. May (onward rule c type g n (kept hs) hs))
      (λ hs all. onward_is_usable sig goals shaped n below g is_one shaped_sig rule c type is atoms (kept hs) hs all) found
      (All-tuples (IsAtom sig goals shaped n below g is_one) (length (premises_from 0 type)) (are_atomic (hypotheses_of g.context)) atoms_known))

  may_be_used : (rule : ℕ) (method : Method) → TakesAtoms sig method → All May (candidates sig rule method g n)
  may_be_used rule (applies c) takes =
      All-where_some May (type_at (constant_types sig) c) _ (λ type is. one (backward (record { of_rule = rule; choice = 0; hypotheses = [] }) (constant c) type g n) (constant_usable rule 0 c type is))
  may_be_used rule (constructs constants) takes = constructed_usable rule 0 constants
  may_be_used rule (splits c major) takes =
      All-where_some May (type_at (constant_types sig) c) _
      (λ type is. All-each (IsAtom sig goals shaped n below g is_one) May (split rule c type major g n) (split_usable rule c major type is (takes type is)) (are_atomic (hypotheses_of g.context)) atoms_known)
  may_be_used rule (goes_forward c) takes = All-where_some May (type_at (constant_types sig) c) _ (λ type is. onward_usable rule c type is (takes type is) (λ hs. places_of g.context))
  may_be_used rule (takes_apart c) takes =
      All-where_some May (type_at (constant_types sig) c) _ (λ type is. onward_usable rule c type is (takes type is) (λ hs. without (map (λ h. h.place) hs) (places_of g.context)))
  may_be_used rule assumes takes =
      All-each (IsAtom sig goals shaped n below g is_one) May (by_hypothesis rule g n) (λ h atom. hypothesis_usable rule h atom.0) (are_atomic (hypotheses_of g.context)) atoms_known
  may_be_used rule uses_hypotheses takes =
      All-each IsHypothesis May (by_hypothesis rule g n) (hypothesis_usable rule) (have_binders (hypotheses_of g.context)) (All-have_binders IsHypothesis (hypotheses_of g.context) hypotheses_known)

pub candidates_may_be_used : CandidatesMayBeUsed
candidates_may_be_used sig shaped_sig goals shaped n below g one_of rule method takes =
    may_be_used sig shaped_sig goals shaped n below g (All-contains (ShapedGoal sig goals) goals g shaped.1 one_of) rule method takes
