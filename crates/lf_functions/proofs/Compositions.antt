-- One assignment after another, as functions.
use Rattle.std.proofs.Common.{◌≡◌, ℕ, ◌+◌, List, Option, Some, None, refl, sym, ap, ◌∙◌}
use Rattle.lf_definitions.specs.Syntax.{metavariable, LfTerm, Spine, LfType, LfAtom, atomic, conclusion_atom, Context, SimpleType}
use Rattle.lf_definitions.specs.Shaping.{Scope, Shaped, ShapedSpine}
use Rattle.lf_definitions.specs.ShapedGoals.{kind_shapes_in, scope_in, ShapedTypeIn, ShapedContextIn}
use Rattle.lf_definitions.specs.Replacements.{Fits, fits_becomes, Goes, Then, then_stays, then_becomes}
use Rattle.lf_definitions.specs.Typing.{LfGoal, goal_type}
use Rattle.lf_definitions.specs.Signatures.{LfSignature}
use Rattle.lf_definitions.specs.Instantiation.{Assignment, assigned, instantiating}
use Rattle.lf_definitions.proofs.ShapedGoals.{ShapedType-pis}
use Rattle.head_laws.specs.AssignmentLaws.{IsAfter}
use Rattle.head_laws.specs.ReplacementLaws.{ShapedGoalOver}
use Rattle.head_laws.proofs.AssignmentLaws.{assignments_compose, assignments_have_a_composite}
use Rattle.lf_functions.specs.Instances.{instance_of, instance_of_spine, instance_of_type, instance_of_atom, instance_of_context, instance_of_goal}
use Rattle.lf_functions.specs.CompositionLaws.{instance_of_assigned, followed_by, InstancesCompose, FollowingGoesOn}
use Rattle.lf_functions.proofs.Results.{instances_are_the_one_result}
use Rattle.lf_functions.proofs.InstanceLaws.{instances_go_part_by_part}
use Rattle.lf_functions.proofs.Parts.{goal_is_known}

pub atom_is_known : (a b : LfAtom) → atomic a ≡ atomic b → a ≡ b
atom_is_known a b e = ap conclusion_atom e

module _ (sig : LfSignature) (goals others : List LfGoal) (ctx inside : Context) (p q : ℕ) (last : Scope) (σ τ : Assignment)
    (goes : Goes p (scope_in sig goals ctx) (scope_in sig others inside) (instantiating σ)) (goes_on : Goes q (scope_in sig others inside) last (instantiating τ)) where
  put_after : (g : ℕ) (s : SimpleType) (o : Option LfTerm) → Fits (scope_in sig others inside) p (assigned g o) s → Then (instantiating τ) (assigned g o) (assigned g (instance_of_assigned others τ g o))
  put_after g s None fits = then_stays refl
  put_after g s (Some u) (fits_becomes shaped small) = then_becomes ((((instances_are_the_one_result sig others inside q last τ goes_on).0 u s shaped).0 (instance_of others τ u)).1 refl)

  is_after : IsAfter (scope_in sig goals ctx) σ τ (followed_by others σ τ)
  is_after g s e = put_after g s (σ g) (goes (metavariable g) s e)

  goes_all_the_way : Goes (p + q) (scope_in sig goals ctx) last (instantiating (followed_by others σ τ))
  goes_all_the_way = (assignments_have_a_composite p q (scope_in sig goals ctx) (scope_in sig others inside) last σ τ goes goes_on).1 (followed_by others σ τ) is_after

  term_after : (t : LfTerm) (s : SimpleType) → Shaped (scope_in sig goals ctx) t s → instance_of others τ (instance_of goals σ t) ≡ instance_of goals (followed_by others σ τ) t
  term_after t s shaped =
      let first = (instances_are_the_one_result sig goals ctx p (scope_in sig others inside) σ goes).0 t s shaped in
      let second = (instances_are_the_one_result sig others inside q last τ goes_on).0 (instance_of goals σ t) s first.1 in
      let both = (instances_are_the_one_result sig goals ctx (p + q) last (followed_by others σ τ) goes_all_the_way).0 t s shaped in
      let x = instance_of others τ (instance_of goals σ t) in
      let one = (assignments_compose p q (scope_in sig goals ctx) (scope_in sig others inside) last σ τ (followed_by others σ τ) goes goes_on is_after).0 t (instance_of goals σ t) x s shaped ((first.0 (instance_of goals σ t)).1 refl) in
      (both.0 x).0 (one.0 ((second.0 x).1 refl))

  spine_after : (ts : Spine) (s : SimpleType) → ShapedSpine (scope_in sig goals ctx) ts s → instance_of_spine others τ (instance_of_spine goals σ ts) ≡ instance_of_spine goals (followed_by others σ τ) ts
  spine_after ts s shaped =
      let first = (instances_are_the_one_result sig goals ctx p (scope_in sig others inside) σ goes).1 ts s shaped in
      let second = (instances_are_the_one_result sig others inside q last τ goes_on).1 (instance_of_spine goals σ ts) s first.1 in
      let both = (instances_are_the_one_result sig goals ctx (p + q) last (followed_by others σ τ) goes_all_the_way).1 ts s shaped in
      let x = instance_of_spine others τ (instance_of_spine goals σ ts) in
      let one = (assignments_compose p q (scope_in sig goals ctx) (scope_in sig others inside) last σ τ (followed_by others σ τ) goes goes_on is_after).1 ts (instance_of_spine goals σ ts) x s shaped ((first.0 (instance_of_spine goals σ ts)).1 refl) in
      (both.0 x).0 (one.0 ((second.0 x).1 refl))

  type_after : (a : LfType) → ShapedTypeIn sig goals ctx a → instance_of_type others τ (instance_of_type goals σ a) ≡ instance_of_type goals (followed_by others σ τ) a
  type_after a shaped =
      let first = (instances_are_the_one_result sig goals ctx p (scope_in sig others inside) σ goes).2 a shaped in
      let second = (instances_are_the_one_result sig others inside q last τ goes_on).2 (instance_of_type goals σ a) first.1 in
      let both = (instances_are_the_one_result sig goals ctx (p + q) last (followed_by others σ τ) goes_all_the_way).2 a shaped in
      let x = instance_of_type others τ (instance_of_type goals σ a) in
      let one = (assignments_compose p q (scope_in sig goals ctx) (scope_in sig others inside) last σ τ (followed_by others σ τ) goes goes_on is_after).2 (kind_shapes_in sig) a (instance_of_type goals σ a) x shaped ((first.0 (instance_of_type goals σ a)).1 refl) in
      (both.0 x).0 (one.0 ((second.0 x).1 refl))

  atom_after : (a : LfAtom) → ShapedTypeIn sig goals ctx (atomic a) → instance_of_atom others τ (instance_of_atom goals σ a) ≡ instance_of_atom goals (followed_by others σ τ) a
  atom_after a shaped =
      let ρ = followed_by others σ τ in
      atom_is_known (instance_of_atom others τ (instance_of_atom goals σ a)) (instance_of_atom goals ρ a)
      ((instances_go_part_by_part others τ).3 (instance_of_atom goals σ a) ∙ ap (instance_of_type others τ) ((instances_go_part_by_part goals σ).3 a)
      ∙ type_after (atomic a) shaped ∙ sym ((instances_go_part_by_part goals ρ).3 a))

  context_after : (more : Context) → ShapedContextIn sig goals ctx more → instance_of_context others τ (instance_of_context goals σ more) ≡ instance_of_context goals (followed_by others σ τ) more
  context_after more shaped =
      let first = (instances_are_the_one_result sig goals ctx p (scope_in sig others inside) σ goes).4 more shaped in
      let second = (instances_are_the_one_result sig others inside q last τ goes_on).4 (instance_of_context goals σ more) first.1 in
      let both = (instances_are_the_one_result sig goals ctx (p + q) last (followed_by others σ τ) goes_all_the_way).4 more shaped in
      let x = instance_of_context others τ (instance_of_context goals σ more) in
      let one = (assignments_compose p q (scope_in sig goals ctx) (scope_in sig others inside) last σ τ (followed_by others σ τ) goes goes_on is_after).3 (kind_shapes_in sig) more (instance_of_context goals σ more) x shaped ((first.0 (instance_of_context goals σ more)).1 refl) in
      (both.0 x).0 (one.0 ((second.0 x).1 refl))

  goal_after : (g : LfGoal) → ShapedGoalOver (kind_shapes_in sig) (scope_in sig goals ctx) g → instance_of_goal others τ (instance_of_goal goals σ g) ≡ instance_of_goal goals (followed_by others σ τ) g
  goal_after g shaped =
      let ρ = followed_by others σ τ in
      goal_is_known (instance_of_goal others τ (instance_of_goal goals σ g)) (instance_of_goal goals ρ g)
      ((instances_go_part_by_part others τ).4 (instance_of_goal goals σ g) ∙ (instances_go_part_by_part goals σ).4 g ∙ sym ((instances_go_part_by_part goals ρ).4 g))
      ((instances_go_part_by_part others τ).6 (instance_of_goal goals σ g) ∙ ap (instance_of_type others τ) ((instances_go_part_by_part goals σ).6 g)
      ∙ type_after (goal_type g) (ShapedType-pis g.context (atomic g.target) shaped.0 shaped.1) ∙ sym ((instances_go_part_by_part goals ρ).6 g))

pub instances_compose : InstancesCompose
instances_compose sig goals others ctx inside p q last σ τ goes goes_on = (
  term_after sig goals others ctx inside p q last σ τ goes goes_on,
  spine_after sig goals others ctx inside p q last σ τ goes goes_on,
  type_after sig goals others ctx inside p q last σ τ goes goes_on,
  atom_after sig goals others ctx inside p q last σ τ goes goes_on,
  context_after sig goals others ctx inside p q last σ τ goes goes_on,
  goal_after sig goals others ctx inside p q last σ τ goes goes_on,
)

pub following_goes_on : FollowingGoesOn
following_goes_on = goes_all_the_way
