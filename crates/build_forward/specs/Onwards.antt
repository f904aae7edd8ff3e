-- A rule that goes onward from hypotheses, and what it offers for tuples of these.
use Rattle.std.specs.Prelude.{◌≡◌, ℕ, suc, List, [], ◌∷◌, ◌++◌, map, Bool, true, false, Some, All}
use Rattle.lf_definitions.specs.Syntax.{LfAtom, Context, conclusion_atom}
use Rattle.lf_definitions.specs.ShapedGoals.{kind_shapes_in, scope_in}
use Rattle.lf_definitions.specs.Typing.{type_at}
use Rattle.lf_definitions.specs.Signatures.{constant_types}
use Rattle.lf_definitions.specs.GoalLists.{all_goals}
use Rattle.lf_terms.specs.Targets.{goal_of}
use Rattle.lf_terms.specs.Types.{type_of}
use Rattle.meta_goals.specs.GoalsOf.{goals_of}
use Rattle.opening_laws.specs.Openings.{LfOpened}
use Rattle.applications.specs.OpenedTypes.{opening_of}
use Rattle.applications.specs.Methods.{Method, goes_forward, takes_apart, LfCandidate}
use Rattle.applications.specs.Candidates.{LfHypothesis, places_of, premises_from, premise_marks, argument_type, paired, without, tuples, onward}
use Rattle.application_laws.specs.Conditions.{HasAtomAt}
use Rattle.application_laws.proofs.Lists.{IsAtomicHypothesis}
use Rattle.application_laws.proofs.Hypotheses.{IsHypothesisFrom}
use Rattle.rule_sets.specs.declared.rule.Builder.{Builder}
use Rattle.rule_sets.specs.declared.rule.Builder.TheVariants.{Forward, Destruct}
use Rattle.build_shared.specs.declared.rule_use.RuleUse.{RuleUse}
use Rattle.build_shared.specs.RuleUses.{IsRuleUse}
use Rattle.build_shared.specs.Seen.{seen_hypothesis}
use Rattle.build_forward.specs.declared.onward.Onward.{Onward}

-- A rule of this builder adds a hypothesis.
abbrev pub AddsHypothesis : Builder → Type 0
AddsHypothesis Forward = Unit {0}
AddsHypothesis Destruct = Unit {0}
AddsHypothesis _ = ⊥

abbrev pub drops_hypotheses : Builder → Bool
drops_hypotheses Destruct = true
drops_hypotheses _ = false

-- what the rule does, where it drops the hypotheses that it takes, or does not
abbrev pub onward_method : Bool → ℕ → Method
onward_method false c = goes_forward c
onward_method true c = takes_apart c

-- the places that are kept once the conclusion is one more hypothesis
abbrev pub kept_after : Bool → Context → List LfHypothesis → List ℕ
kept_after false ctx hs = places_of ctx
kept_after true ctx hs = without (map (λ h. h.place) hs) (places_of ctx)

-- the places of the marks that are true, from the i-th on
abbrev pub marked_from : ℕ → List Bool → List ℕ
marked_from i [] = []
marked_from i (true ∷ marks) = i ∷ marked_from (suc i) marks
marked_from i (false ∷ marks) = marked_from (suc i) marks

-- a hypothesis of the goal without binders
abbrev pub IsAtomIn : RuleUse → LfHypothesis → Type 0
IsAtomIn u = IsAtomicHypothesis (IsHypothesisFrom (kind_shapes_in u.sig.now) (scope_in u.sig.now (all_goals (goals_of u.goals.now)) []) 0 u.goal.now.ctx)

-- The marks and the premises are those of the constant's type, whose premises have no binders, and nor have the hypotheses.
pub record IsOnward (o : Onward) : Type 0 where
  pub usage : IsRuleUse o.usage.now
  pub type_is : type_at (constant_types o.usage.now.sig.now) o.constant ≡ Some (type_of o.ty.now)
  pub marks_are : o.marks.now ≡ premise_marks (type_of o.ty.now)
  pub premises_are : o.premises.now ≡ premises_from 0 (type_of o.ty.now)
  pub take_atoms : All (HasAtomAt (type_of o.ty.now)) (premises_from 0 (type_of o.ty.now))
  pub atoms : All (IsAtomIn o.usage.now) (map seen_hypothesis o.hyps.now)

-- what the constant's type is opened to for a tuple
abbrev pub opening_for : Onward → List LfHypothesis → LfOpened
opening_for o hs =
    opening_of o.usage.now.goal.now.ctx (places_of o.usage.now.goal.now.ctx) (paired (premises_from 0 (type_of o.ty.now)) hs) o.usage.now.first (type_of o.ty.now)

-- the types of the premises of what it is opened to
abbrev pub premise_types : Onward → LfOpened → List LfAtom
premise_types o opened = map (argument_type (type_of o.ty.now) opened) (premises_from 0 (type_of o.ty.now))

-- The first of some atoms are to be the types of hypotheses.
abbrev pub equations_between : List LfAtom → List LfHypothesis → List (LfAtom × LfAtom)
equations_between [] hs = []
equations_between (a ∷ atoms) [] = []
equations_between (a ∷ atoms) (h ∷ hs) = (a, conclusion_atom h.type) ∷ equations_between atoms hs

-- what the rule offers for a tuple
abbrev pub tuple_offer : Onward → List LfHypothesis → LfCandidate
tuple_offer o hs =
    onward o.usage.now.rule o.constant (type_of o.ty.now) (goal_of o.usage.now.goal.now) o.usage.now.first (kept_after o.drops o.usage.now.goal.now.ctx hs) hs

-- and for the tuples that begin with some hypotheses and have so many more
abbrev pub tuple_offers : Onward → ℕ → List LfHypothesis → List LfCandidate
tuple_offers o left chosen = map (λ hs. tuple_offer o (chosen ++ hs)) (tuples left (map seen_hypothesis o.hyps.now))
