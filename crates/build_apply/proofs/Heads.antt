-- Heads that close a goal: what their types are opened to, that they may be used, and that constants and hypotheses are such heads.
use Rattle.std.proofs.Common.{◌≡◌, ◌≢◌, ℕ, All, Bool, List, [], length, Some, sym, ap, ap₂, ◌∙◌, subst, arith}
use Rattle.std.proofs.lemmas.List.Elements.{All-nil, All-weaker}
use Rattle.lf_definitions.specs.Syntax.{LfHead, metavariable, constant, LfType, LfAtom, family, atomic, conclusion_atom, Spine}
use Rattle.lf_definitions.specs.ShapedGoals.{scope_in, kind_shapes_in, ShapedSignature, ShapedGoal}
use Rattle.lf_definitions.specs.Typing.{LfGoal, type_at}
use Rattle.lf_definitions.specs.Signatures.{LfSignature, constant_types}
use Rattle.lf_definitions.specs.GoalLists.{LfGoals, all_goals}
use Rattle.opening_laws.specs.Openings.{LfOpened, IsOpened, context_variable}
use Rattle.opening_laws.specs.Conditions.{FixesArgument, MayBeOpened}
use Rattle.opening_laws.proofs.Kept.{under_all-context_variable}
use Rattle.applications.specs.OpenedTypes.{opening_of}
use Rattle.applications.specs.Methods.{LfLabel, LfCandidate, closes}
use Rattle.applications.specs.Candidates.{places_of, premise_marks, LfHypothesis, hypotheses_of, meets_target, backward}
use Rattle.applications.proofs.OpenedTypes.{openings_are_functions}
use Rattle.application_laws.specs.Conditions.{MayBeUsed}
use Rattle.application_laws.proofs.Lists.{no_pairs}
use Rattle.application_laws.proofs.Hypotheses.{IsHypothesisFrom, all_hypotheses}
use Rattle.application_laws.proofs.Arguments.{in_context, constant_has_shape, constant_is_shaped, constant_mentions_none}
use Rattle.application_laws.proofs.Usable.{opened_with_all, backward_is_usable}
use Rattle.meta_openings.specs.Results.{IsOpenable}
use Rattle.build_shared.specs.Conditions.{HasFirst}
use Rattle.build_shared.proofs.WholeUses.{first_is_shaped}
use Rattle.build_apply.specs.Heads.{IsHeadFor}

-- an equation between the atoms that two copies are
pub same_atoms : (f h : ℕ) (ts us : Spine) → family f ts ≡ family h us → ◌≡◌ {A = LfAtom} (record { atom_family = f; atom_args = ts }) (record { atom_family = h; atom_args = us })
same_atoms f h ts us same = ap conclusion_atom same

-- a candidate from its parts
abbrev made_with : LfLabel → LfHead → LfOpened → List Bool → List (LfAtom × LfAtom) → LfCandidate
made_with label h opened marks equations = record { label = label; head = h; opened = opened; are_proofs = marks; equations = equations; outcome = closes }

pub made_backward : (label : LfLabel) (h : LfHead) (type : LfType) (g : LfGoal) (n : ℕ) (opened : LfOpened) (marks : List Bool) (equations : List (LfAtom × LfAtom)) →
    opened ≡ opening_of g.context (places_of g.context) [] n type → marks ≡ premise_marks type → equations ≡ meets_target g opened →
    made_with label h opened marks equations ≡ backward label h type g n
made_backward label h type g n opened marks equations opens marked meets =
    ap (made_with label h opened marks) meets ∙ ap₂ (λ (o : LfOpened) (ms : List Bool). made_with label h o ms (meets_target g o)) opens marked

module _ (sig : LfSignature) (goals : LfGoals) (n : ℕ) (g : LfGoal) (first : HasFirst sig goals n g) where
  module _ (h : LfHead) (type : LfType) (head : IsHeadFor sig (all_goals goals) g h type) where
    may_be_opened : MayBeOpened sig (all_goals goals) g.context (places_of g.context) [] n type
    may_be_opened =
        opened_with_all sig (all_goals goals) first.shaped n first.below g (first_is_shaped sig goals n g first) [] type head.type_is_shaped (no_pairs (λ x y. x.0 ≢ y.0)) (All-nil (FixesArgument g.context type))

    pub is_openable : IsOpenable g.context (places_of g.context) [] n type
    is_openable = (sig, all_goals goals, may_be_opened)

    pub opened_is : (opened : LfOpened) → IsOpened g.context (places_of g.context) [] n type opened → opened ≡ opening_of g.context (places_of g.context) [] n type
    opened_is opened = (openings_are_functions sig (all_goals goals) g.context (places_of g.context) [] n type may_be_opened opened).0

    pub head_is_usable : (label : LfLabel) → MayBeUsed sig (all_goals goals) n g (backward label h type g n)
    head_is_usable label =
        backward_is_usable sig (all_goals goals) first.shaped n first.below g (first_is_shaped sig goals n g first) label h type head.has_shape head.is_no_goal head.type_is_shaped head.mentions

pub constant_is_head : (sig : LfSignature) → ShapedSignature sig → (goals : List LfGoal) (g : LfGoal) (c : ℕ) (type : LfType) → type_at (constant_types sig) c ≡ Some type → IsHeadFor sig goals g (constant c) type
constant_is_head sig shaped goals g c type is = record {
  has_shape = constant_has_shape sig shaped c type is goals g.context;
  is_no_goal = λ m e. absurd cc;
  type_is_shaped = constant_is_shaped sig shaped c type is goals g.context;
  mentions = λ m o. absurd (constant_mentions_none sig shaped c type is m o);
}

-- Each hypothesis is the head that its variable is.
abbrev pub IsHeadOf : LfSignature → List LfGoal → LfGoal → LfHypothesis → Type 0
IsHeadOf sig goals g h = IsHeadFor sig goals g (context_variable (length g.context) h.place) h.type

pub hypotheses_are_heads : (sig : LfSignature) (goals : List LfGoal) (g : LfGoal) → ShapedGoal sig goals g → All (IsHeadOf sig goals g) (hypotheses_of g.context)
hypotheses_are_heads sig goals g is_one =
    All-weaker (IsHypothesisFrom (kind_shapes_in sig) (scope_in sig goals []) 0 g.context) (IsHeadOf sig goals g) each (hypotheses_of g.context)
    (all_hypotheses (kind_shapes_in sig) (scope_in sig goals []) 0 g.context is_one.0)
  where
    each : (h : LfHypothesis) → IsHypothesisFrom (kind_shapes_in sig) (scope_in sig goals []) 0 g.context h → IsHeadOf sig goals g h
    each h (k, a, at_place, there, same, shaped_type, mentions) =
        let place : k ≡ h.place = omega (arith, at_place) in record {
          has_shape = under_all-context_variable g.context (scope_in sig goals []) h.place a (subst (λ p. type_at g.context p ≡ Some a) place there) ∙ ap Some (sym same);
          is_no_goal = λ m e. absurd cc;
          type_is_shaped = shaped_type;
          mentions = λ m o. in_context (metavariable m) g.context (atomic g.target) (mentions m o);
        }
