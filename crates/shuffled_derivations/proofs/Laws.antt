-- Derivations by their lengths, numbers of goals, and opening lists.
use Rattle.std.proofs.Common.{◌≡◌, ◌≢◌, ℕ, zero, suc, List, [], ◌∷◌, length, refl, sym, ap, subst}
use Rattle.std.proofs.lemmas.List.Elements.{All-nil, All-cons}
use Rattle.std.proofs.lemmas.List.Kept.{AllPairs-cons}
use Rattle.lf_definitions.specs.Syntax.{bound, constant, metavariable, LfType, pis, binders_of, conclusion_atom, atomic}
use Rattle.lf_definitions.specs.Signatures.{LfSignature}
use Rattle.lf_definitions.specs.ShapedGoals.{kind_shapes_in, scope_in, ShapedTypeIn, ShapedGoal, ShapedGoals}
use Rattle.lf_definitions.specs.Shaping.{ShapedType}
use Rattle.lf_definitions.specs.Typing.{LfGoal}
use Rattle.lf_definitions.specs.GoalLists.{LfGoals, all_goals, opening}
use Rattle.lf_definitions.proofs.ShapedGoals.{ScopeGrows, ShapedType-grown, ShapedContext-pis, ShapedType-under_pis}
use Rattle.opening_laws.proofs.Shapes.{whole_type}
use Rattle.application_laws.proofs.Lists.{no_pairs}
use Rattle.alternatives.specs.Rules.{LfRule}
use Rattle.derivations.specs.Derivations.{IsDerivation, no_goal_left, one_step}
use Rattle.shuffled_derivations.specs.Lengths.{Derives}
use Rattle.shuffled_derivations.specs.Laws.{LengthsAreOfDerivations, RenumberedListsDeriveAlike, DerivableTypesOpen}
use Rattle.shuffled_derivations.proofs.Alike.{derives_alike}

module _ (sig : LfSignature) (rules : List LfRule) where
  numbers_of : (n : ℕ) (list : LfGoals) → Derives sig rules n list → (numbers : List ℕ) × IsDerivation sig rules list numbers × (length numbers ≡ n)
  numbers_of zero list none = ([], no_goal_left none, refl)
  numbers_of (suc n) list d =
      let rest = numbers_of n d.1.goals d.3 in
      (d.0 ∷ rest.0, one_step d.0 d.1 d.2 rest.1, ap suc rest.2)

  has_length : {list : LfGoals} {numbers : List ℕ} → IsDerivation sig rules list numbers → Derives sig rules (length numbers) list
  has_length (no_goal_left none) = none
  has_length (one_step i alternative there rest) = (i, alternative, there, has_length rest)

pub lengths_are_of_derivations : LengthsAreOfDerivations
lengths_are_of_derivations sig rules list n = (numbers_of sig rules n list, λ d. subst (λ k. Derives sig rules k list) d.2 (has_length sig rules d.1))

pub renumbered_lists_derive_alike : RenumberedListsDeriveAlike
renumbered_lists_derive_alike sig rules list other may as_well same n = (derives_alike sig rules n list other may as_well same, derives_alike sig rules n other list as_well may (sym same))

-- A closed type is shaped among any goals.
closed_grows : (sig : LfSignature) (goals : List LfGoal) → ScopeGrows (scope_in sig [] []) (scope_in sig goals [])
closed_grows sig goals (bound n) s e = absurd cc
closed_grows sig goals (constant c) s e = e
closed_grows sig goals (metavariable g) s e = absurd cc

opening_is_shaped : (sig : LfSignature) (a : LfType) → ShapedTypeIn sig [] [] a → ShapedGoals sig (all_goals (opening a))
opening_is_shaped sig a shaped =
    let goals = all_goals (opening a) in
    let whole : ShapedType (kind_shapes_in sig) (scope_in sig goals []) (pis (binders_of a) (atomic (conclusion_atom a))) =
    subst (ShapedType (kind_shapes_in sig) (scope_in sig goals [])) (sym (whole_type a)) (ShapedType-grown shaped (scope_in sig goals []) (closed_grows sig goals)) in
    let g : LfGoal = record { id = 0; context = binders_of a; target = conclusion_atom a } in (
      AllPairs-cons (λ (x : LfGoal) y. x.id ≢ y.id) g [] (All-nil (λ (y : LfGoal). g.id ≢ y.id)) (no_pairs (λ (x : LfGoal) y. x.id ≢ y.id)),
      All-cons (ShapedGoal sig goals) g [] (ShapedContext-pis (binders_of a) (atomic (conclusion_atom a)) whole, ShapedType-under_pis (binders_of a) (atomic (conclusion_atom a)) whole)
          (All-nil (ShapedGoal sig goals)),
    )

pub derivable_types_open : DerivableTypesOpen
derivable_types_open sig rules a = (
  (
    (λ d. (length d.0, has_length sig rules d.1)),
    (λ d. let numbers = numbers_of sig rules d.0 (opening a) d.1 in (numbers.0, numbers.1)),
  ),
  opening_is_shaped sig a,
)
