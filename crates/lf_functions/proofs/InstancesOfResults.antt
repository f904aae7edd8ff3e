-- Closed terms may be put for metavariables before a list is put for variables, or afterwards, as functions.
use Rattle.std.proofs.Common.{◌≡◌, ℕ, List, [], refl, sym, ap, ◌∙◌, subst, length}
use Rattle.lf_definitions.specs.Syntax.{LfTerm, Spine, LfType, LfAtom, atomic, Context, SimpleType}
use Rattle.lf_definitions.specs.Shaping.{Scope, under_all, Shaped, ShapedSpine, ShapedType, ShapedList}
use Rattle.lf_definitions.specs.ShapedGoals.{ShapedContext, kind_shapes_in, scope_in}
use Rattle.lf_definitions.specs.Replacements.{Goes}
use Rattle.lf_definitions.specs.Typing.{LfGoal}
use Rattle.lf_definitions.specs.Signatures.{LfSignature}
use Rattle.lf_definitions.specs.Instantiation.{Assignment, instantiating, InstantiatedSpine}
use Rattle.lf_definitions.proofs.Telescopes.{Goes-up_by}
use Rattle.head_laws.specs.AssignmentLaws.{AssignsClosedTerms}
use Rattle.head_laws.proofs.Assignments.{up_by-closed}
use Rattle.head_laws.proofs.AssignmentLaws.{instantiation_goes_along_with_substitution}
use Rattle.lf_functions.specs.Instances.{goals_depth, instance_of, instance_of_spine, instance_of_type, instance_of_atom, instance_of_context, result_of, result_of_spine, result_of_type, result_of_atom, result_of_context}
use Rattle.lf_functions.specs.Laws.{IsTheOne}
use Rattle.lf_functions.specs.CompositionLaws.{InstancesGoAlongWithResults}
use Rattle.lf_functions.proofs.Depths.{KnowsGoals-scope_in, KnowsGoals-under_all, Goes-goals_depth}
use Rattle.lf_functions.proofs.Results.{instances_in_scope, instances_are_the_one_result, results_are_the_one_result}
use Rattle.lf_functions.proofs.InstanceLaws.{instances_go_part_by_part, results_go_part_by_part}
use Rattle.lf_functions.proofs.Compositions.{atom_is_known}

module _ (sig : LfSignature) (goals : List LfGoal) (ctx : Context) (depth : ℕ) (others : Scope) (σ : Assignment) (closed : AssignsClosedTerms σ) (goes : Goes depth (scope_in sig goals ctx) others (instantiating σ))
    (shapes : List SimpleType) (sub : Spine) (shaped_sub : ShapedList (scope_in sig goals ctx) sub shapes) where
  abbrev outer : Scope
  outer = scope_in sig goals ctx

  abbrev later : Spine
  later = instance_of_spine goals σ sub

  goes_inside : Goes depth (under_all shapes outer) (under_all shapes others) (instantiating σ)
  goes_inside = subst (Goes depth (under_all shapes outer) (under_all shapes others)) (up_by-closed (length shapes) σ closed) (Goes-up_by depth shapes outer others (instantiating σ) goes)

  enough : Goes (goals_depth goals) (under_all shapes outer) (under_all shapes others) (instantiating σ)
  enough = Goes-goals_depth goals depth (under_all shapes outer) (under_all shapes others) σ (KnowsGoals-under_all goals shapes outer (KnowsGoals-scope_in sig goals ctx)) goes_inside

  shaped_later : ShapedList others later shapes
  shaped_later = ((instances_are_the_one_result sig goals ctx depth others σ goes).1 sub _ shaped_sub).1

  put_later : IsTheOne (InstantiatedSpine σ sub) later
  put_later = ((instances_are_the_one_result sig goals ctx depth others σ goes).1 sub _ shaped_sub).0

  term_along : (t : LfTerm) (s : SimpleType) → Shaped (under_all shapes outer) t s → instance_of goals σ (result_of shapes sub t) ≡ result_of shapes later (instance_of goals σ t)
  term_along t s shaped =
      let u = instance_of goals σ t in
      let r = result_of shapes sub t in
      let x = instance_of goals σ r in
      let inside = (instances_in_scope goals (kind_shapes_in sig) (under_all shapes outer) (under_all shapes others) σ enough).0 t s shaped in
      let result = (results_are_the_one_result (kind_shapes_in sig) outer shapes sub shaped_sub).0 t s shaped in
      let after = (instances_are_the_one_result sig goals ctx depth others σ goes).0 r s result.1 in
      let along = (instantiation_goes_along_with_substitution σ closed depth outer others goes shapes [] sub later shaped_sub ((put_later later).1 refl)).0 s t u r x shaped ((inside.0 u).1 refl) ((result.0 r).1 refl) in
      (((results_are_the_one_result (kind_shapes_in sig) others shapes later shaped_later).0 u s inside.1).0 x).0 (along.0 ((after.0 x).1 refl))

  spine_along : (ts : Spine) (s : SimpleType) → ShapedSpine (under_all shapes outer) ts s → instance_of_spine goals σ (result_of_spine shapes sub ts) ≡ result_of_spine shapes later (instance_of_spine goals σ ts)
  spine_along ts s shaped =
      let u = instance_of_spine goals σ ts in
      let r = result_of_spine shapes sub ts in
      let x = instance_of_spine goals σ r in
      let inside = (instances_in_scope goals (kind_shapes_in sig) (under_all shapes outer) (under_all shapes others) σ enough).1 ts s shaped in
      let result = (results_are_the_one_result (kind_shapes_in sig) outer shapes sub shaped_sub).1 ts s shaped in
      let after = (instances_are_the_one_result sig goals ctx depth others σ goes).1 r s result.1 in
      let along = (instantiation_goes_along_with_substitution σ closed depth outer others goes shapes [] sub later shaped_sub ((put_later later).1 refl)).1 s ts u r x shaped ((inside.0 u).1 refl) ((result.0 r).1 refl) in
      (((results_are_the_one_result (kind_shapes_in sig) others shapes later shaped_later).1 u s inside.1).0 x).0 (along.0 ((after.0 x).1 refl))

  type_along : (a : LfType) → ShapedType (kind_shapes_in sig) (under_all shapes outer) a → instance_of_type goals σ (result_of_type shapes sub a) ≡ result_of_type shapes later (instance_of_type goals σ a)
  type_along a shaped =
      let u = instance_of_type goals σ a in
      let r = result_of_type shapes sub a in
      let x = instance_of_type goals σ r in
      let inside = (instances_in_scope goals (kind_shapes_in sig) (under_all shapes outer) (under_all shapes others) σ enough).2 a shaped in
      let result = (results_are_the_one_result (kind_shapes_in sig) outer shapes sub shaped_sub).2 a shaped in
      let after = (instances_are_the_one_result sig goals ctx depth others σ goes).2 r result.1 in
      let along = (instantiation_goes_along_with_substitution σ closed depth outer others goes shapes [] sub later shaped_sub ((put_later later).1 refl)).2 (kind_shapes_in sig) a u r x shaped ((inside.0 u).1 refl) ((result.0 r).1 refl) in
      (((results_are_the_one_result (kind_shapes_in sig) others shapes later shaped_later).2 u inside.1).0 x).0 (along.0 ((after.0 x).1 refl))

  atom_along : (a : LfAtom) → ShapedType (kind_shapes_in sig) (under_all shapes outer) (atomic a) → instance_of_atom goals σ (result_of_atom shapes sub a) ≡ result_of_atom shapes later (instance_of_atom goals σ a)
  atom_along a shaped =
      let part = (instances_go_part_by_part goals σ).3 in
      let result = (results_go_part_by_part shapes sub).3 in
      let result_later = (results_go_part_by_part shapes later).3 in
      atom_is_known (instance_of_atom goals σ (result_of_atom shapes sub a)) (result_of_atom shapes later (instance_of_atom goals σ a))
      (part (result_of_atom shapes sub a) ∙ ap (instance_of_type goals σ) (result a) ∙ type_along (atomic a) shaped ∙ ap (result_of_type shapes later) (sym (part a)) ∙ sym (result_later (instance_of_atom goals σ a)))

  context_along : (more : Context) → ShapedContext (kind_shapes_in sig) (under_all shapes outer) more → instance_of_context goals σ (result_of_context shapes sub more) ≡ result_of_context shapes later (instance_of_context goals σ more)
  context_along more shaped =
      let u = instance_of_context goals σ more in
      let r = result_of_context shapes sub more in
      let x = instance_of_context goals σ r in
      let inside = (instances_in_scope goals (kind_shapes_in sig) (under_all shapes outer) (under_all shapes others) σ enough).4 more shaped in
      let result = (results_are_the_one_result (kind_shapes_in sig) outer shapes sub shaped_sub).4 more shaped in
      let after = (instances_are_the_one_result sig goals ctx depth others σ goes).4 r result.1 in
      let along = (instantiation_goes_along_with_substitution σ closed depth outer others goes shapes [] sub later shaped_sub ((put_later later).1 refl)).3 (kind_shapes_in sig) more u r x shaped ((inside.0 u).1 refl) ((result.0 r).1 refl) in
      (((results_are_the_one_result (kind_shapes_in sig) others shapes later shaped_later).4 u inside.1).0 x).0 (along.0 ((after.0 x).1 refl))

pub instances_go_along_with_results : InstancesGoAlongWithResults
instances_go_along_with_results sig goals ctx depth others σ closed goes shapes sub shaped_sub = (
  term_along sig goals ctx depth others σ closed goes shapes sub shaped_sub,
  spine_along sig goals ctx depth others σ closed goes shapes sub shaped_sub,
  type_along sig goals ctx depth others σ closed goes shapes sub shaped_sub,
  atom_along sig goals ctx depth others σ closed goes shapes sub shaped_sub,
  context_along sig goals ctx depth others σ closed goes shapes sub shaped_sub,
)
