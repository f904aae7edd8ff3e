-- What is known of an opening in a goal's context, and that a candidate with shaped equations may be used.
use Rattle.std.proofs.Common.{◌≡◌, ◌⊎◌, inl, inr, ℕ, zero, suc, ◌+◌, ◌<◌, ◌≤◌, Bool, true, Option, Some, None, List, [], ◌++◌, All, AllPairs, length, refl, sym, ap, ◌∙◌, arith}
use Rattle.std.specs.Prelude.{◌≢◌, not, slice_get}
use Rattle.head_laws.specs.Mentions.{occurs_in_type}
use Rattle.std.proofs.lemmas.List.Elements.{All-nil, All-cons, All-weaker}
use Rattle.lf_definitions.specs.Syntax.{LfHead, bound, pi, family, metavariable, LfType, LfAtom, atomic, shape_of, shapes_of_types, binders_of}
use Rattle.lf_definitions.specs.Shaping.{ShapedSpine, shaped_at}
use Rattle.lf_definitions.specs.ShapedGoals.{scope_in, kind_shapes_in, ShapedTypeIn, ShapedGoal, ShapedGoals}
use Rattle.lf_definitions.specs.Occurrence.{OccursInSpine, OccursInType, occurs_family, OccursInContext, OccursInGoal}
use Rattle.lf_definitions.specs.Typing.{LfGoal, type_at}
use Rattle.lf_definitions.specs.Signatures.{LfSignature, constant_types}
use Rattle.lf_definitions.proofs.ShapedGoals.{ShapedType-grown}
use Rattle.opening_laws.specs.Openings.{LfOpened, fixed_to, skip_fixed, unfixed_from}
use Rattle.opening_laws.specs.Conditions.{FixesArgument, MayBeOpened}
use Rattle.opening_laws.specs.Laws.{IsOfTypeOrFresh}
use Rattle.opening_laws.proofs.Laws.{openings_are_shaped}
use Rattle.opening_laws.proofs.Mentions.{openings_mention}
use Rattle.opening_laws.proofs.Numbers.{fresh_goals_are_numbered, more_goals}
use Rattle.opening_laws.proofs.AllKept.{all_may_be_kept}
use Rattle.applications.specs.OpenedTypes.{opening_of}
use Rattle.applications.specs.Methods.{LfLabel, LfCandidate}
use Rattle.applications.specs.Candidates.{places_of, is_atomic, argument_type, backward, premise_marks, skipping, unfixed_marks}
use Rattle.applications.proofs.OpenedTypes.{openings_are_functions}
use Rattle.application_laws.specs.Conditions.{IsMentionedOrFresh, MayBeUsed}
use Rattle.application_laws.proofs.Lists.{no_pairs, numbers_within, numbers_rise}
use Rattle.application_laws.proofs.Hypotheses.{keeps_places}
use Rattle.application_laws.proofs.Arguments.{argument_is_shaped, argument_mentions, head_or_argument, in_context, in_target, BothAre, MentionsOnly, equations_shaped, equations_mention_only}

-- What is known of what a type is opened to.
pub record KnownOpening (sig : LfSignature) (goals : List LfGoal) (n : ℕ) (g : LfGoal) (type : LfType) (o : LfOpened) : Type 0 where
  pub goals_are_shaped : ShapedGoals sig (goals ++ o.fresh)
  pub type_is_shaped : ShapedTypeIn sig (goals ++ o.fresh) g.context type
  pub terms_are_shaped : ShapedSpine (scope_in sig (goals ++ o.fresh) g.context) o.terms (shape_of type)
  pub end_is_shaped : ShapedTypeIn sig (goals ++ o.fresh) g.context (atomic o.end)
  pub are_numbered : (k : ℕ) (h : LfGoal) → slice_get o.fresh k ≡ Some h → h.id ≡ n + k
  pub type_mentions : (m : ℕ) → OccursInType (metavariable m) type → OccursInGoal (metavariable m) g
  pub fresh_mention : (k : ℕ) (h : LfGoal) → slice_get o.fresh k ≡ Some h → (m : ℕ) → OccursInGoal (metavariable m) h → IsMentionedOrFresh g n (n + k) m
  pub terms_mention : (m : ℕ) → OccursInSpine (metavariable m) o.terms → (n ≤ m) × (m < n + length o.fresh)
  pub end_mentions : (m : ℕ) → OccursInType (metavariable m) (atomic o.end) → IsMentionedOrFresh g n (n + length o.fresh) m

-- Each argument that isn't fixed has a mark.
pub marks_count : (fixed : List (ℕ × ℕ)) (i : ℕ) (type : LfType) → length (unfixed_marks fixed i (premise_marks type)) ≡ length (unfixed_from fixed i type)
marks_count fixed i (family f args) = refl
marks_count fixed i (pi a b) = step (fixed_to fixed i) (not (occurs_in_type (bound zero) b)) (marks_count fixed (suc i) b)
  where
    step : (o : Option ℕ) (mark : Bool) → length (unfixed_marks fixed (suc i) (premise_marks b)) ≡ length (unfixed_from fixed (suc i) b) →
        length (skipping o mark (unfixed_marks fixed (suc i) (premise_marks b))) ≡ length (skip_fixed o i (unfixed_from fixed (suc i) b))
    step None mark later = ap suc later
    step (Some place) mark later = later

pub plain_marks : (i : ℕ) (type : LfType) → length (premise_marks type) ≡ length (unfixed_from [] i type)
plain_marks i (family f args) = refl
plain_marks i (pi a b) = ap suc (plain_marks (suc i) b)

-- An atom is shaped among the goals and the fresh ones, and mentions what the goal mentions and fresh ones.
abbrev pub IsGoodAtom : LfSignature → List LfGoal → ℕ → LfGoal → LfOpened → LfAtom → Type 0
IsGoodAtom sig goals n g o a = ShapedTypeIn sig (goals ++ o.fresh) g.context (atomic a) × MentionsOnly (IsMentionedOrFresh g n (n + length o.fresh)) a

module _ (sig : LfSignature) (goals : List LfGoal) (shaped : ShapedGoals sig goals) (n : ℕ) (below : All (λ h. h.id < n) goals) (g : LfGoal) (is_one : ShapedGoal sig goals g) where
  pub grown_type : (more : List LfGoal) (a : LfType) → ShapedTypeIn sig goals g.context a → ShapedTypeIn sig (goals ++ more) g.context a
  grown_type more a p = ShapedType-grown p (scope_in sig (goals ++ more) g.context) (more_goals (shapes_of_types (constant_types sig)) goals more (shapes_of_types g.context))

  module _ (kept : List ℕ) (fixed : List (ℕ × ℕ)) (type : LfType) (mentions : (m : ℕ) → OccursInType (metavariable m) type → OccursInGoal (metavariable m) g) where
    of_type : (last m : ℕ) → IsOfTypeOrFresh type n last m → IsMentionedOrFresh g n last m
    of_type last m (inl o) = inl (mentions m o)
    of_type last m (inr between) = inr between

    of_context : (last m : ℕ) → OccursInContext (metavariable m) g.context ⊎ IsOfTypeOrFresh type n last m → IsMentionedOrFresh g n last m
    of_context last m (inl o) = inl (in_context (metavariable m) g.context (atomic g.target) o)
    of_context last m (inr other) = of_type last m other

    pub known_opening : MayBeOpened sig goals g.context kept fixed n type → (o : LfOpened) → o ≡ opening_of g.context kept fixed n type → KnownOpening sig goals n g type o
    known_opening may o is =
        let opened = (openings_are_functions sig goals g.context kept fixed n type may o).1 is in
        let parts = openings_are_shaped sig goals g.context kept fixed n type may o opened in
        let numbers = fresh_goals_are_numbered g.context kept fixed n type o opened in
        let mention = openings_mention g.context kept fixed n type o opened in record {
          goals_are_shaped = parts.3 shaped;
          type_is_shaped = grown_type o.fresh type may.type_is_shaped;
          terms_are_shaped = parts.0;
          end_is_shaped = parts.1;
          are_numbered = numbers.1;
          type_mentions = mentions;
          fresh_mention = λ k h at_place m p. of_context (n + k) m ((mention m).0 k h at_place p);
          terms_mention = λ m. (mention m).1;
          end_mentions = λ m p. of_type (n + length o.fresh) m ((mention m).2 p);
        }

  module _ (type : LfType) (o : LfOpened) (known : KnownOpening sig goals n g type o) where
    pub end_is_good : IsGoodAtom sig goals n g o o.end
    end_is_good = (known.end_is_shaped, λ m p. known.end_mentions m (occurs_family (metavariable m) o.end.atom_family o.end.atom_args p))

    pub target_is_good : IsGoodAtom sig goals n g o g.target
    target_is_good = (grown_type o.fresh (atomic g.target) is_one.1, λ m p. inl (in_target m g.context g.target p))

    pub argument_is_good : (k : ℕ) (a : LfType) → type_at (binders_of type) k ≡ Some a → is_atomic a ≡ true → IsGoodAtom sig goals n g o (argument_type type o k)
    argument_is_good k a is atom = (
      argument_is_shaped (kind_shapes_in sig) (scope_in sig (goals ++ o.fresh) g.context) type o.terms o.end k a known.type_is_shaped known.terms_are_shaped is atom,
      λ m p. each m (argument_mentions m type o.terms o.end k a is atom (occurs_family (metavariable m) (argument_type type o k).atom_family (argument_type type o k).atom_args p)),
    )
      where
        each : (m : ℕ) → OccursInType (metavariable m) type ⊎ OccursInSpine (metavariable m) o.terms → IsMentionedOrFresh g n (n + length o.fresh) m
        each m (inl p) = inl (known.type_mentions m p)
        each m (inr p) = inr (known.terms_mention m p)

  module _ (c : LfCandidate) (kept : List ℕ) (fixed : List (ℕ × ℕ)) (type : LfType) (may : MayBeOpened sig goals g.context kept fixed n type) (is : c.opened ≡ opening_of g.context kept fixed n type)
      (known : KnownOpening sig goals n g type c.opened) where
    pub usable : length c.are_proofs ≡ length (unfixed_from fixed 0 type) → scope_in sig goals g.context c.head ≡ Some (shape_of type) → ((m : ℕ) → metavariable m ≡ c.head → ⊥) → All (BothAre (IsGoodAtom sig goals n g c.opened)) c.equations → MayBeUsed sig goals n g c
    usable marks has_shape no_goal good = record {
      kept = kept;
      fixed = fixed;
      type = type;
      may_be_opened = may;
      is_opening = is;
      goals_are_shaped = known.goals_are_shaped;
      term_is_shaped = shaped_at (shape_of type) (more_goals (shapes_of_types (constant_types sig)) goals c.opened.fresh (shapes_of_types g.context) c.head (shape_of type) has_shape) known.terms_are_shaped;
      end_is_shaped = known.end_is_shaped;
      equations_are_shaped = equations_shaped (kind_shapes_in sig) (scope_in sig (goals ++ c.opened.fresh) g.context) 0 c.equations
          (All-weaker (BothAre (IsGoodAtom sig goals n g c.opened)) (BothAre (λ a. ShapedTypeIn sig (goals ++ c.opened.fresh) g.context (atomic a))) (λ pair both. (both.0.0, both.1.0)) c.equations good);
      have_marks = marks ∙ sym (fresh_goals_are_numbered g.context kept fixed n type c.opened ((openings_are_functions sig goals g.context kept fixed n type may c.opened).1 is)).0;
      fresh_are_numbered = known.are_numbered;
      fresh_mention = known.fresh_mention;
      term_mentions = λ m o. of_head m (head_or_argument (metavariable m) c.head c.opened.terms o);
      end_mentions = known.end_mentions;
      equations_mention = equations_mention_only (IsMentionedOrFresh g n (n + length c.opened.fresh)) 0 c.equations
          (All-weaker (BothAre (IsGoodAtom sig goals n g c.opened)) (BothAre (MentionsOnly (IsMentionedOrFresh g n (n + length c.opened.fresh)))) (λ pair both. (both.0.1, both.1.1)) c.equations good);
    }
      where
        of_head : (m : ℕ) → (metavariable m ≡ c.head) ⊎ OccursInSpine (metavariable m) c.opened.terms → IsMentionedOrFresh g n (n + length c.opened.fresh) m
        of_head m (inl e) = absurd (no_goal m e)
        of_head m (inr o) = inr (known.terms_mention m o)

  -- with all of the context kept
  pub opened_with_all : (fixed : List (ℕ × ℕ)) (type : LfType) → ShapedTypeIn sig goals g.context type → AllPairs (λ x y. x.0 ≢ y.0) fixed → All (FixesArgument g.context type) fixed →
      MayBeOpened sig goals g.context (places_of g.context) fixed n type
  opened_with_all fixed type type_is_shaped once fit =
      (all_may_be_kept g.context (places_of g.context) (keeps_places g.context)).0 sig goals fixed n type shaped.0 below is_one.0 type_is_shaped (numbers_rise 0 (length g.context))
      (All-weaker (λ m. (0 ≤ m) × (m < 0 + length g.context)) (λ m. m < length g.context) (λ m both. let high = both.1 in omega (arith, high)) (places_of g.context) (numbers_within 0 (length g.context))) once fit

  pub backward_is_usable : (label : LfLabel) (h : LfHead) (type : LfType) → scope_in sig goals g.context h ≡ Some (shape_of type) → ((m : ℕ) → metavariable m ≡ h → ⊥) → ShapedTypeIn sig goals g.context type →
      ((m : ℕ) → OccursInType (metavariable m) type → OccursInGoal (metavariable m) g) → MayBeUsed sig goals n g (backward label h type g n)
  backward_is_usable label h type has_shape no_goal type_is_shaped mentions =
      let c = backward label h type g n in
      let may = opened_with_all [] type type_is_shaped (no_pairs (λ x y. x.0 ≢ y.0)) (All-nil (FixesArgument g.context type)) in
      let known = known_opening (places_of g.context) [] type mentions may c.opened refl in
      usable c (places_of g.context) [] type may refl known (plain_marks 0 type) has_shape no_goal
      (All-cons (BothAre (IsGoodAtom sig goals n g c.opened)) (c.opened.end, g.target) [] (end_is_good type c.opened known, target_is_good type c.opened known) (All-nil (BothAre (IsGoodAtom sig goals n g c.opened))))
