-- What the constant's type is opened to for a tuple, and what the rule offers for it.
use Rattle.std.proofs.Common.{◌≡◌, ℕ, List, ◌++◌, All, sym, ap, ◌∙◌, subst}
use Rattle.lf_definitions.specs.ShapedGoals.{scope_in, kind_shapes_in, ShapedGoal}
use Rattle.lf_definitions.specs.Typing.{LfGoal}
use Rattle.lf_definitions.specs.Signatures.{LfSignature}
use Rattle.lf_definitions.specs.GoalLists.{all_goals}
use Rattle.lf_terms.specs.Targets.{goal_of}
use Rattle.lf_terms.specs.Types.{type_of}
use Rattle.meta_goals.specs.GoalsOf.{goals_of}
use Rattle.meta_openings.specs.Results.{IsOpenable}
use Rattle.opening_laws.specs.Openings.{LfOpened, IsOpened}
use Rattle.opening_laws.specs.Conditions.{MayBeOpened}
use Rattle.opening_laws.proofs.Laws.{openings_are_shaped}
use Rattle.applications.specs.Candidates.{LfHypothesis, places_of, premises_from, paired}
use Rattle.applications.proofs.OpenedTypes.{openings_are_functions}
use Rattle.application_laws.specs.Conditions.{MayBeUsed}
use Rattle.application_laws.proofs.Arguments.{constant_is_shaped}
use Rattle.application_laws.proofs.Onward.{onward_may_be_opened, onward_is_usable}
use Rattle.build_shared.specs.ArgumentTypes.{HasShapedTerms}
use Rattle.build_shared.proofs.WholeUses.{first_is_shaped}
use Rattle.build_forward.specs.declared.onward.Onward.{Onward}
use Rattle.build_forward.specs.Onwards.{IsOnward, IsAtomIn, kept_after, opening_for, tuple_offer}

module _ (o : Onward) (is : IsOnward o) where
  abbrev sig : LfSignature
  sig = o.usage.now.sig.now

  abbrev goals : List LfGoal
  goals = all_goals (goals_of o.usage.now.goals.now)

  abbrev g : LfGoal
  g = goal_of o.usage.now.goal.now

  is_one : ShapedGoal sig goals g
  is_one = first_is_shaped sig (goals_of o.usage.now.goals.now) o.usage.now.first g is.usage.goals

  module _ (hs : List LfHypothesis) (all : All (IsAtomIn o.usage.now) hs) where
    abbrev fixed : List (ℕ × ℕ)
    fixed = paired (premises_from 0 (type_of o.ty.now)) hs

    may_be_opened : MayBeOpened sig goals g.context (places_of g.context) fixed o.usage.now.first (type_of o.ty.now)
    may_be_opened =
        onward_may_be_opened sig goals is.usage.goals.shaped o.usage.now.first is.usage.goals.below g is_one is.usage.signature o.constant (type_of o.ty.now) is.type_is is.take_atoms hs all

    pub is_usable : MayBeUsed sig goals o.usage.now.first g (tuple_offer o hs)
    is_usable =
        onward_is_usable sig goals is.usage.goals.shaped o.usage.now.first is.usage.goals.below g is_one is.usage.signature o.usage.now.rule o.constant (type_of o.ty.now) is.type_is is.take_atoms
        (kept_after o.drops g.context hs) hs all

    module _ (kept : List ℕ) (pairs : List (ℕ × ℕ)) (kept_is : kept ≡ places_of g.context) (pairs_are : pairs ≡ paired o.premises.now hs) where
      fixed_is : pairs ≡ fixed
      fixed_is = pairs_are ∙ ap (λ ks. paired ks hs) is.premises_are

      pub is_openable : IsOpenable g.context kept pairs o.usage.now.first (type_of o.ty.now)
      is_openable =
          subst (λ k. IsOpenable g.context k pairs o.usage.now.first (type_of o.ty.now)) (sym kept_is)
          (subst (λ f. IsOpenable g.context (places_of g.context) f o.usage.now.first (type_of o.ty.now)) (sym fixed_is) (sig, goals, may_be_opened))

      pub opened_is : (x : LfOpened) → IsOpened g.context kept pairs o.usage.now.first (type_of o.ty.now) x → x ≡ opening_for o hs
      opened_is x opened =
          (openings_are_functions sig goals g.context (places_of g.context) fixed o.usage.now.first (type_of o.ty.now) may_be_opened x).0
          (subst (λ k. IsOpened g.context k fixed o.usage.now.first (type_of o.ty.now) x) kept_is
          (subst (λ f. IsOpened g.context kept f o.usage.now.first (type_of o.ty.now) x) fixed_is opened))

    pub has_shaped_terms : (x : LfOpened) → x ≡ opening_for o hs → HasShapedTerms (type_of o.ty.now) x.terms
    has_shaped_terms x x_is = record {
      kinds = kind_shapes_in sig;
      scope = scope_in sig (goals ++ x.fresh) g.context;
      type_is_shaped = constant_is_shaped sig is.usage.signature o.constant (type_of o.ty.now) is.type_is (goals ++ x.fresh) g.context;
      terms_are_shaped = (openings_are_shaped sig goals g.context (places_of g.context) fixed o.usage.now.first (type_of o.ty.now) may_be_opened x
          ((openings_are_functions sig goals g.context (places_of g.context) fixed o.usage.now.first (type_of o.ty.now) may_be_opened x).1 x_is)).0;
    }
