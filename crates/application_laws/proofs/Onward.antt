-- A constant whose premises are hypotheses may be used.
use Rattle.std.proofs.Common.{◌≡◌, inl, ℕ, ◌<◌, Some, List, [], ◌∷◌, ◌++◌, All, AllPairs, refl, sym, ◌∙◌, subst, arith}
use Rattle.std.specs.Prelude.{◌≢◌}
use Rattle.std.proofs.lemmas.List.Elements.{All-nil, All-cons, All-head, All-tail}
use Rattle.std.proofs.lemmas.List.Kept.{AllPairs-cons}
use Rattle.head_laws.proofs.Numbers.{AllPairs-head, AllPairs-tail}
use Rattle.lf_definitions.specs.Syntax.{metavariable, constant, LfType, atomic, conclusion_atom}
use Rattle.lf_definitions.specs.ShapedGoals.{scope_in, kind_shapes_in, ShapedTypeIn, ShapedSignature, ShapedGoal, ShapedGoals}
use Rattle.lf_definitions.specs.Occurrence.{occurs_family, OccursInType}
use Rattle.lf_definitions.specs.Typing.{LfGoal, type_at}
use Rattle.lf_definitions.specs.Signatures.{LfSignature, constant_types}
use Rattle.opening_laws.specs.Openings.{LfOpened}
use Rattle.opening_laws.specs.Conditions.{FixesArgument, MayBeOpened}
use Rattle.applications.specs.Candidates.{places_of, LfHypothesis, premises_from, argument_type, paired, premise_equations, onward}
use Rattle.application_laws.specs.Conditions.{HasAtomAt, MayBeUsed}
use Rattle.application_laws.proofs.Lists.{no_pairs, IsAtomicHypothesis}
use Rattle.application_laws.proofs.Hypotheses.{IsHypothesisFrom}
use Rattle.application_laws.proofs.Arguments.{atom_shape, whole_atom, in_context, BothAre, constant_has_shape, constant_is_shaped, constant_mentions_none, premises_rise}
use Rattle.application_laws.proofs.Usable.{KnownOpening, IsGoodAtom, grown_type, known_opening, argument_is_good, usable, marks_count, opened_with_all}

-- each argument is fixed once
above_paired : (k : ℕ) (ks : List ℕ) (hs : List LfHypothesis) → All (λ y. k < y) ks → All (λ y. k ≢ y.0) (paired ks hs)
above_paired k [] hs all = All-nil (λ y. k ≢ y.0)
above_paired k (i ∷ ks) [] all = All-nil (λ y. k ≢ y.0)
above_paired k (i ∷ ks) (h ∷ hs) all =
    All-cons (λ y. k ≢ y.0) (i, h.place) (paired ks hs) (differ (All-head (λ y. k < y) i ks all)) (above_paired k ks hs (All-tail (λ y. k < y) i ks all))
  where
    differ : k < i → k ≢ i
    differ less e = absurd (omega (arith, less, e))

pub paired_once : (ks : List ℕ) (hs : List LfHypothesis) → AllPairs (λ x y. x < y) ks → AllPairs (λ x y. x.0 ≢ y.0) (paired ks hs)
paired_once [] hs rise = no_pairs (λ x y. x.0 ≢ y.0)
paired_once (k ∷ ks) [] rise = no_pairs (λ x y. x.0 ≢ y.0)
paired_once (k ∷ ks) (h ∷ hs) rise =
    AllPairs-cons (λ x y. x.0 ≢ y.0) (k, h.place) (paired ks hs) (above_paired k ks hs (AllPairs-head (λ x y. x < y) k ks rise)) (paired_once ks hs (AllPairs-tail (λ x y. x < y) k ks rise))

module _ (sig : LfSignature) (goals : List LfGoal) (shaped : ShapedGoals sig goals) (n : ℕ) (below : All (λ h. h.id < n) goals) (g : LfGoal) (is_one : ShapedGoal sig goals g) where
  -- a hypothesis of the goal without binders
  abbrev pub IsAtom : LfHypothesis → Type 0
  IsAtom = IsAtomicHypothesis (IsHypothesisFrom (kind_shapes_in sig) (scope_in sig goals []) 0 g.context)

  pub argument_fits : (type : LfType) (k : ℕ) (h : LfHypothesis) → HasAtomAt type k → IsAtom h → FixesArgument g.context type (k, h.place)
  argument_fits type k h (a, is, atom) ((i, b, at_place, there, same, shaped_type, mentions), also) =
      let place : i ≡ h.place = omega (arith, at_place) in
      (a, b, is, subst (λ p. type_at g.context p ≡ Some b) place there, atom_shape a atom ∙ sym (atom_shape h.type also) ∙ same)

  paired_fit : (type : LfType) (ks : List ℕ) (hs : List LfHypothesis) → All (HasAtomAt type) ks → All IsAtom hs → All (FixesArgument g.context type) (paired ks hs)
  paired_fit type [] hs atoms all = All-nil (FixesArgument g.context type)
  paired_fit type (k ∷ ks) [] atoms all = All-nil (FixesArgument g.context type)
  paired_fit type (k ∷ ks) (h ∷ hs) atoms all =
      All-cons (FixesArgument g.context type) (k, h.place) (paired ks hs) (argument_fits type k h (All-head (HasAtomAt type) k ks atoms) (All-head IsAtom h hs all))
      (paired_fit type ks hs (All-tail (HasAtomAt type) k ks atoms) (All-tail IsAtom h hs all))

  pub hypothesis_is_good : (o : LfOpened) (h : LfHypothesis) → IsAtom h → IsGoodAtom sig goals n g o (conclusion_atom h.type)
  hypothesis_is_good o h ((i, b, at_place, there, same, shaped_type, mentions), also) = (
    subst (ShapedTypeIn sig (goals ++ o.fresh) g.context) (sym (whole_atom h.type also)) (grown_type sig goals shaped n below g is_one o.fresh h.type shaped_type),
    λ m p. inl (in_context (metavariable m) g.context (atomic g.target)
        (mentions m (subst (OccursInType (metavariable m)) (whole_atom h.type also) (occurs_family (metavariable m) (conclusion_atom h.type).atom_family (conclusion_atom h.type).atom_args p)))),
  )

  premises_are_good : (type : LfType) (o : LfOpened) → KnownOpening sig goals n g type o → (ks : List ℕ) (hs : List LfHypothesis) → All (HasAtomAt type) ks → All IsAtom hs →
      All (BothAre (IsGoodAtom sig goals n g o)) (premise_equations type o ks hs)
  premises_are_good type o known [] hs atoms all = All-nil (BothAre (IsGoodAtom sig goals n g o))
  premises_are_good type o known (k ∷ ks) [] atoms all = All-nil (BothAre (IsGoodAtom sig goals n g o))
  premises_are_good type o known (k ∷ ks) (h ∷ hs) atoms all =
      let first = All-head (HasAtomAt type) k ks atoms in
      All-cons (BothAre (IsGoodAtom sig goals n g o)) (argument_type type o k, conclusion_atom h.type) (premise_equations type o ks hs)
      (argument_is_good sig goals shaped n below g is_one type o known k first.0 first.1 first.2, hypothesis_is_good o h (All-head IsAtom h hs all))
      (premises_are_good type o known ks hs (All-tail (HasAtomAt type) k ks atoms) (All-tail IsAtom h hs all))

  -- where hypotheses stand for the premises
  pub onward_may_be_opened : ShapedSignature sig → (c : ℕ) (type : LfType) → type_at (constant_types sig) c ≡ Some type → All (HasAtomAt type) (premises_from 0 type) → (hs : List LfHypothesis) →
      All IsAtom hs → MayBeOpened sig goals g.context (places_of g.context) (paired (premises_from 0 type) hs) n type
  onward_may_be_opened shaped_sig c type is atoms hs all =
      let ks = premises_from 0 type in
      opened_with_all sig goals shaped n below g is_one (paired ks hs) type (constant_is_shaped sig shaped_sig c type is goals g.context) (paired_once ks hs (premises_rise 0 type)) (paired_fit type ks hs atoms all)

  pub onward_is_usable : ShapedSignature sig → (rule c : ℕ) (type : LfType) → type_at (constant_types sig) c ≡ Some type → All (HasAtomAt type) (premises_from 0 type) → (kept : List ℕ) (hs : List LfHypothesis) →
      All IsAtom hs → MayBeUsed sig goals n g (onward rule c type g n kept hs)
  onward_is_usable shaped_sig rule c type is atoms kept hs all =
      let candidate = onward rule c type g n kept hs in
      let ks = premises_from 0 type in
      let fixed = paired ks hs in
      let may = onward_may_be_opened shaped_sig c type is atoms hs all in
      let known = known_opening sig goals shaped n below g is_one (places_of g.context) fixed type (λ m o. absurd (constant_mentions_none sig shaped_sig c type is m o)) may candidate.opened refl in
      usable sig goals shaped n below g is_one candidate (places_of g.context) fixed type may refl known (marks_count fixed 0 type) (constant_has_shape sig shaped_sig c type is goals g.context) no_goal
      (premises_are_good type candidate.opened known ks hs atoms all)
    where
      no_goal : (m : ℕ) → metavariable m ≡ constant c → ⊥
      no_goal m e = absurd cc
