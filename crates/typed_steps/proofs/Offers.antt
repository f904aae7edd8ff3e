-- The head that a candidate offers: a constant, or a hypothesis of the goal, whose type is opened.
use Rattle.std.proofs.Common.{◌≡◌, ◌⊎◌, inl, inr, ℕ, suc, ◌+◌, ◌-◌, ◌<◌, Some, List, [], ◌∷◌, map, All, length, refl, sym, ap, ◌∙◌, arith}
use Rattle.std.specs.Prelude.{◌≢◌, Contains}
use Rattle.std.proofs.lemmas.List.Elements.{All-nil, All-cons, All-append, All-weaker, All-map, All-contains}
use Rattle.lf_definitions.specs.Syntax.{LfHead, constant, LfType, Context}
use Rattle.lf_definitions.specs.Renaming.{next_by, rename_type}
use Rattle.lf_definitions.specs.ShapedGoals.{kind_shapes_in, scope_in, ShapedSignature, ShapedGoal, ShapedGoals}
use Rattle.lf_definitions.specs.Typing.{LfGoal, type_at}
use Rattle.lf_definitions.specs.Signatures.{LfSignature, constant_types}
use Rattle.opening_laws.specs.Openings.{context_variable}
use Rattle.opening_laws.specs.Conditions.{FixesArgument, MayBeOpened}
use Rattle.applications.specs.OpenedTypes.{opening_of}
use Rattle.applications.specs.Methods.{Method, LfLabel, applies, constructs, splits, goes_forward, takes_apart, assumes, uses_hypotheses, LfCandidate}
use Rattle.applications.specs.Candidates.{places_of, LfHypothesis, hypotheses_from, hypotheses_of, are_atomic, have_binders, backward, constructed, by_hypothesis, kept_by_splitting, split, onward, tuples, premises_from, paired, without, candidates}
use Rattle.application_laws.specs.Conditions.{HasAtomAt, TakesAtoms}
use Rattle.application_laws.proofs.Lists.{no_pairs, IsAtomicHypothesis, All-where_some, All-each, All-are_atomic, All-have_binders, All-tuples}
use Rattle.application_laws.proofs.Hypotheses.{IsHypothesisFrom, all_hypotheses}
use Rattle.application_laws.proofs.Arguments.{constant_is_shaped}
use Rattle.application_laws.proofs.Usable.{opened_with_all}
use Rattle.application_laws.proofs.Onward.{IsAtom, onward_may_be_opened}
use Rattle.application_laws.proofs.Laws.{split_fits, split_may}

-- A hypothesis is the entry at its place, as it is seen from the whole context.
abbrev pub IsEntryFrom : ℕ → Context → LfHypothesis → Type 0
IsEntryFrom first ctx h = (k : ℕ) × (a : LfType) × (h.place ≡ first + k) × (type_at ctx k ≡ Some a) × (h.type ≡ rename_type (next_by (length ctx - k)) a)

-- A head has a type: it is a constant of that type, or the variable of an entry that is seen so.
abbrev pub IsConstantOf : LfSignature → LfHead → LfType → Type 0
IsConstantOf sig h type = (c : ℕ) × (h ≡ constant c) × (type_at (constant_types sig) c ≡ Some type)

abbrev pub IsEntryOf : Context → LfHead → LfType → Type 0
IsEntryOf ctx h type = (k : ℕ) × (a : LfType) × (h ≡ context_variable (length ctx) k) × (type_at ctx k ≡ Some a) × (type ≡ rename_type (next_by (length ctx - k)) a)

-- What a candidate opens is the type of its head.
pub record OpensHead (sig : LfSignature) (goals : List LfGoal) (n : ℕ) (g : LfGoal) (c : LfCandidate) : Type 0 where
  pub kept : List ℕ
  pub fixed : List (ℕ × ℕ)
  pub type : LfType
  pub may_be_opened : MayBeOpened sig goals g.context kept fixed n type
  pub is_opening : c.opened ≡ opening_of g.context kept fixed n type
  pub has_type : IsConstantOf sig c.head type ⊎ IsEntryOf g.context c.head type

entries_are_seen : (first : ℕ) (ctx : Context) → All (IsEntryFrom first ctx) (hypotheses_from first ctx)
entries_are_seen first [] = All-nil (IsEntryFrom first [])
entries_are_seen first (a ∷ rest) =
    let whole : suc (length rest) ≡ suc (length rest) - 0 = omega arith in
    All-cons (IsEntryFrom first (a ∷ rest)) (record { place = first; type = rename_type (next_by (suc (length rest))) a }) (hypotheses_from (suc first) rest)
    (0, a, omega arith, refl, ap (λ l. rename_type (next_by l) a) whole)
    (All-weaker (IsEntryFrom (suc first) rest) (IsEntryFrom first (a ∷ rest)) later (hypotheses_from (suc first) rest) (entries_are_seen (suc first) rest))
  where
    later : (h : LfHypothesis) → IsEntryFrom (suc first) rest h → IsEntryFrom first (a ∷ rest) h
    later h (k, b, at_place, is, same) =
        let less : length rest - k ≡ suc (length rest) - suc k = omega arith in
        (suc k, b, omega (arith, at_place), is, same ∙ ap (λ l. rename_type (next_by l) b) less)

module _ (sig : LfSignature) (shaped_sig : ShapedSignature sig) (goals : List LfGoal) (shaped : ShapedGoals sig goals) (n : ℕ) (below : All (λ h. h.id < n) goals) (g : LfGoal) (is_one : ShapedGoal sig goals g) where
  abbrev Opens : LfCandidate → Type 0
  Opens = OpensHead sig goals n g

  -- what is known of a hypothesis
  abbrev IsKnown : LfHypothesis → Type 0
  IsKnown h = IsHypothesisFrom (kind_shapes_in sig) (scope_in sig goals []) 0 g.context h × IsEntryFrom 0 g.context h

  all_known : All IsKnown (hypotheses_of g.context)
  all_known = λ i d less. (all_hypotheses (kind_shapes_in sig) (scope_in sig goals []) 0 g.context is_one.0 i d less, entries_are_seen 0 g.context i d less)

  atoms_known : All (IsAtomicHypothesis IsKnown) (are_atomic (hypotheses_of g.context))
  atoms_known = All-are_atomic IsKnown (hypotheses_of g.context) all_known

  as_atom : (h : LfHypothesis) → IsAtomicHypothesis IsKnown h → IsAtom sig goals shaped n below g is_one h
  as_atom h (known, atom) = (known.0, atom)

  one : (c : LfCandidate) → Opens c → All Opens (c ∷ [])
  one c opens = All-cons Opens c [] opens (All-nil Opens)

  constant_opens : (label : LfLabel) (c : ℕ) (type : LfType) → type_at (constant_types sig) c ≡ Some type → Opens (backward label (constant c) type g n)
  constant_opens label c type is = record {
    kept = places_of g.context;
    fixed = [];
    type = type;
    may_be_opened = opened_with_all sig goals shaped n below g is_one [] type (constant_is_shaped sig shaped_sig c type is goals g.context) (no_pairs (λ x y. x.0 ≢ y.0)) (All-nil (FixesArgument g.context type));
    is_opening = refl;
    has_type = inl (c, refl, is);
  }

  constructed_opens : (rule place : ℕ) (constants : List ℕ) → All Opens (constructed rule sig place constants g n)
  constructed_opens rule place [] = All-nil Opens
  constructed_opens rule place (c ∷ rest) =
      let here = λ (type : LfType). backward (record { of_rule = rule; choice = place; hypotheses = [] }) (constant c) type g n ∷ [] in
      All-append Opens _ (constructed rule sig (suc place) rest g n)
      (All-where_some Opens (type_at (constant_types sig) c) here
      (λ type is. one (backward (record { of_rule = rule; choice = place; hypotheses = [] }) (constant c) type g n) (constant_opens (record { of_rule = rule; choice = place; hypotheses = [] }) c type is)))
      (constructed_opens rule (suc place) rest)

  hypothesis_opens : (rule : ℕ) (h : LfHypothesis) → IsKnown h → All Opens (by_hypothesis rule g n h)
  hypothesis_opens rule h ((i, b, at_i, there, same_shape, shaped_type, mentions), (k, a, at_place, is, same)) =
      let place : k ≡ h.place = omega (arith, at_place) in
      one (backward (record { of_rule = rule; choice = 0; hypotheses = h.place ∷ [] }) (context_variable (length g.context) h.place) h.type g n) (record {
        kept = places_of g.context;
        fixed = [];
        type = h.type;
        may_be_opened = opened_with_all sig goals shaped n below g is_one [] h.type shaped_type (no_pairs (λ x y. x.0 ≢ y.0)) (All-nil (FixesArgument g.context h.type));
        is_opening = refl;
        has_type = inr (k, a, ap (context_variable (length g.context)) (sym place), is, same);
      })

  split_opens : (rule c major : ℕ) (type : LfType) → type_at (constant_types sig) c ≡ Some type → HasAtomAt type major → (h : LfHypothesis) → IsAtomicHypothesis IsKnown h → All Opens (split rule c type major g n h)
  split_opens rule c major type is has h atom =
      one _ (record {
        kept = kept_by_splitting type major g h.place;
        fixed = (major, h.place) ∷ [];
        type = type;
        may_be_opened = split_may sig shaped_sig goals shaped n below g is_one c type is major h (split_fits sig shaped_sig goals shaped n below g is_one type major h has (as_atom h atom));
        is_opening = refl;
        has_type = inl (c, refl, is);
      })

  onward_opens : (rule c : ℕ) (type : LfType) → type_at (constant_types sig) c ≡ Some type → All (HasAtomAt type) (premises_from 0 type) → (kept : List LfHypothesis → List ℕ) →
      All Opens (map (λ hs. onward rule c type g n (kept hs) hs) (tuples (length (premises_from 0 type)) (are_atomic (hypotheses_of g.context))))
  onward_opens rule c type is atoms kept =
      let found = tuples (length (premises_from 0 type)) (are_atomic (hypotheses_of g.context)) in
      All-map Opens (λ hs. onward rule c type g n (kept hs) hs) found
      (All-weaker (All (IsAtomicHypothesis IsKnown)) (λ hs. Opens (onward rule c type g n (kept hs) hs)) each found
      (All-tuples (IsAtomicHypothesis IsKnown) (length (premises_from 0 type)) (are_atomic (hypotheses_of g.context)) atoms_known))
    where
      each : (hs : List LfHypothesis) → All (IsAtomicHypothesis IsKnown) hs → Opens (onward rule c type g n (kept hs) hs)
      each hs all = record {
        kept = places_of g.context;
        fixed = paired (premises_from 0 type) hs;
        type = type;
        may_be_opened = onward_may_be_opened sig goals shaped n below g is_one shaped_sig c type is atoms hs (All-weaker (IsAtomicHypothesis IsKnown) (IsAtom sig goals shaped n below g is_one) as_atom hs all);
        is_opening = refl;
        has_type = inl (c, refl, is);
      }

  candidates_open : (rule : ℕ) (method : Method) → TakesAtoms sig method → All Opens (candidates sig rule method g n)
  candidates_open rule (applies c) takes =
      All-where_some Opens (type_at (constant_types sig) c) _
      (λ type is. one (backward (record { of_rule = rule; choice = 0; hypotheses = [] }) (constant c) type g n) (constant_opens (record { of_rule = rule; choice = 0; hypotheses = [] }) c type is))
  candidates_open rule (constructs constants) takes = constructed_opens rule 0 constants
  candidates_open rule (splits c major) takes =
      All-where_some Opens (type_at (constant_types sig) c) _
      (λ type is. All-each (IsAtomicHypothesis IsKnown) Opens (split rule c type major g n) (split_opens rule c major type is (takes type is)) (are_atomic (hypotheses_of g.context)) atoms_known)
  candidates_open rule (goes_forward c) takes = All-where_some Opens (type_at (constant_types sig) c) _ (λ type is. onward_opens rule c type is (takes type is) (λ hs. places_of g.context))
  candidates_open rule (takes_apart c) takes =
      All-where_some Opens (type_at (constant_types sig) c) _ (λ type is. onward_opens rule c type is (takes type is) (λ hs. without (map (λ h. h.place) hs) (places_of g.context)))
  candidates_open rule assumes takes =
      All-each (IsAtomicHypothesis IsKnown) Opens (by_hypothesis rule g n) (λ h atom. hypothesis_opens rule h atom.0) (are_atomic (hypotheses_of g.context)) atoms_known
  candidates_open rule uses_hypotheses takes =
      All-each IsKnown Opens (by_hypothesis rule g n) (hypothesis_opens rule) (have_binders (hypotheses_of g.context)) (All-have_binders IsKnown (hypotheses_of g.context) all_known)

pub heads_are_opened : (sig : LfSignature) → ShapedSignature sig → (goals : List LfGoal) → ShapedGoals sig goals → (n : ℕ) → All (λ h. h.id < n) goals → (g : LfGoal) → Contains goals g →
    (rule : ℕ) (method : Method) → TakesAtoms sig method → All (OpensHead sig goals n g) (candidates sig rule method g n)
heads_are_opened sig shaped_sig goals shaped n below g one_of rule method takes =
    candidates_open sig shaped_sig goals shaped n below g (All-contains (ShapedGoal sig goals) goals g shaped.1 one_of) rule method takes
