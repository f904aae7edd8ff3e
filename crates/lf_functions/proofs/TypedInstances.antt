-- Instances of typed terms, where goals are taken to others.
use Rattle.std.proofs.Common.{◌≡◌, ℕ, zero, suc, Option, Some, None, option_map, List, [], ◌∷◌, refl, sym, ap, ◌∙◌, subst}
use Rattle.lf_definitions.specs.Syntax.{LfHead, bound, constant, metavariable, LfTerm, LfType, Context, SimpleType, shape_of, shapes_of_types}
use Rattle.lf_definitions.specs.Shaping.{Scope, under, under_all, Shaped, shape_of_metavariable}
use Rattle.lf_definitions.specs.ShapedGoals.{shapes_of_goals, scope_in}
use Rattle.lf_definitions.specs.Replacements.{Fits, fits_stays, fits_becomes, Goes}
use Rattle.lf_definitions.specs.Typing.{Typed, LfGoal, type_of_metavariable}
use Rattle.lf_definitions.specs.Signatures.{LfSignature, typing_in}
use Rattle.lf_definitions.specs.Instantiation.{Assignment, assigned, instantiating}
use Rattle.lf_definitions.proofs.Renaming.{same_head, rename-same_head, Shaped-rename}
use Rattle.lf_definitions.proofs.Types.{shape_of-SubstitutedType}
use Rattle.lf_definitions.proofs.Typing.{Shaped-Typed}
use Rattle.lf_definitions.proofs.ShapedGoals.{shapes_of-typing_in}
use Rattle.typing_laws.specs.InstantiationLaws.{KeepsGoal, TakesGoals}
use Rattle.typing_laws.proofs.FoundGoals.{found}
use Rattle.typing_laws.proofs.Instantiation.{instantiations_keep_types}
use Rattle.unification.proofs.Spreading.{under_all-constant, under_all-metavariable}
use Rattle.lf_functions.specs.Instances.{goals_depth, instance_of, instance_of_type, instance_of_context}
use Rattle.lf_functions.specs.TypedInstanceLaws.{TakenGoalsGoToOthers, InstancesHaveTheirTypes}
use Rattle.lf_functions.proofs.Depths.{shape_below_depth}
use Rattle.lf_functions.proofs.Results.{instances_are_the_one_result}
use Rattle.lf_functions.proofs.InstanceLaws.{instances_keep_shapes}
use Rattle.lf_functions.proofs.CheckingLaws.{has_type_is_typing}

-- scopes that differ in metavariables alone
variables_same : (shapes : List SimpleType) (Γ Δ : Scope) → ((n : ℕ) → Δ (bound n) ≡ Γ (bound n)) → (n : ℕ) → under_all shapes Δ (bound n) ≡ under_all shapes Γ (bound n)
variables_same [] Γ Δ same n = same n
variables_same (s ∷ shapes) Γ Δ same n = variables_same shapes (under s Γ) (under s Δ) below n
  where
    below : (n : ℕ) → under s Δ (bound n) ≡ under s Γ (bound n)
    below zero = refl
    below (suc n) = same n

-- the shape of a metavariable is that of its type
shape_of_type : (sig : LfSignature) (goals : List LfGoal) (g : ℕ) → option_map shape_of (type_of_metavariable goals g) ≡ shape_of_metavariable (shapes_of_goals goals) g
shape_of_type sig goals g = ap (λ Γ. Γ (metavariable g)) (shapes_of-typing_in sig goals [])

module _ (sig : LfSignature) (goals others : List LfGoal) (σ : Assignment) (takes : TakesGoals sig goals others σ) (ctx placed : Context) (same_shapes : shapes_of_types placed ≡ shapes_of_types ctx) where
  abbrev after : Scope
  after = scope_in sig others placed

  at_variable : (n : ℕ) → after (bound n) ≡ scope_in sig goals ctx (bound n)
  at_variable n =
      ap (λ shapes. under_all shapes (scope_in sig others []) (bound n)) same_shapes ∙ variables_same (shapes_of_types ctx) (scope_in sig goals []) (scope_in sig others []) (λ m. refl) n

  at_constant : (c : ℕ) → after (constant c) ≡ scope_in sig goals ctx (constant c)
  at_constant c = under_all-constant (shapes_of_types placed) (scope_in sig others []) c ∙ sym (under_all-constant (shapes_of_types ctx) (scope_in sig goals []) c)

  -- A head that is known with no variables is known in a context.
  grows : (h : LfHead) (s : SimpleType) → scope_in sig others [] h ≡ Some s → after (same_head h) ≡ Some s
  grows (bound n) s e = absurd cc
  grows (constant c) s e = under_all-constant (shapes_of_types placed) (scope_in sig others []) c ∙ e
  grows (metavariable g) s e = under_all-metavariable (shapes_of_types placed) (scope_in sig others []) g ∙ e

  shaped_after : (u : LfTerm) (s : SimpleType) → Shaped (scope_in sig others []) u s → Shaped after u s
  shaped_after u s p = subst (λ x. Shaped after x s) (rename-same_head u) (Shaped-rename p same_head after grows)

  -- what comes of a goal that is kept
  image_fits : (m : LfGoal) (c : LfType) (g : ℕ) (s : SimpleType) → m.id ≡ g → shape_of c ≡ s → shape_of_metavariable (shapes_of_goals goals) g ≡ Some s →
      ((u : LfTerm) → σ m.id ≡ Some u → Typed (typing_in sig others []) u c) → (σ m.id ≡ None → type_of_metavariable others m.id ≡ Some c) →
      (o : Option LfTerm) → σ m.id ≡ o → Fits after (goals_depth goals) (assigned g o) s
  image_fits m c g s same shape known typed stayed None is =
      let type_is : type_of_metavariable others g ≡ Some c = ap (type_of_metavariable others) (sym same) ∙ stayed is in
      fits_stays (under_all-metavariable (shapes_of_types placed) (scope_in sig others []) g ∙ sym (shape_of_type sig others g) ∙ ap (option_map shape_of) type_is ∙ ap Some shape)
  image_fits m c g s same shape known typed stayed (Some u) is =
      let shaped : Shaped (scope_in sig others []) u s = subst (Shaped (scope_in sig others []) u) shape (subst (λ Γ. Shaped Γ u (shape_of c)) (shapes_of-typing_in sig others []) (Shaped-Typed (typed u is))) in
      fits_becomes (shaped_after u s shaped) (shape_below_depth goals g s known)

  at_goal : (g : ℕ) (s : SimpleType) → shape_of_metavariable (shapes_of_goals goals) g ≡ Some s → (o : Option LfType) → type_of_metavariable goals g ≡ o → option_map shape_of o ≡ Some s →
      Fits after (goals_depth goals) (assigned g (σ g)) s
  at_goal g s known None is e = absurd cc
  at_goal g s known (Some a) is e =
      let r = found (KeepsGoal sig others σ) goals takes.keeps g a is in
      let k = r.3 in
      let of_type : shape_of a ≡ s = cc in
      let shape : shape_of k.0 ≡ s = shape_of-SubstitutedType k.1 ∙ ap shape_of r.2 ∙ of_type in
      subst (λ o. Fits after (goals_depth goals) (assigned g o) s) (ap σ r.1) (image_fits r.0 k.0 g s r.1 shape known k.2 k.3 (σ r.0.id) refl)

  taken_goes : Goes (goals_depth goals) (scope_in sig goals ctx) after (instantiating σ)
  taken_goes (bound n) s e = fits_stays (at_variable n ∙ e)
  taken_goes (constant c) s e = fits_stays (at_constant c ∙ e)
  taken_goes (metavariable g) s e =
      let known = sym (under_all-metavariable (shapes_of_types ctx) (scope_in sig goals []) g) ∙ e in
      at_goal g s known (type_of_metavariable goals g) refl (shape_of_type sig goals g ∙ known)

pub taken_goals_go_to_others : TakenGoalsGoToOthers
taken_goals_go_to_others = taken_goes

pub instances_have_their_types : InstancesHaveTheirTypes
instances_have_their_types sig goals others σ takes ctx shaped t a shaped_a has =
    let placed = instance_of_context goals σ ctx in
    let r = instance_of goals σ t in
    let c = instance_of_type goals σ a in
    let d = goals_depth goals in
    let typed : Typed (typing_in sig goals ctx) t a = (has_type_is_typing sig goals ctx takes.of_signature takes.of_goals shaped t a shaped_a).0 has in
    let shaped_t : Shaped (scope_in sig goals ctx) t (shape_of a) = subst (λ Γ. Shaped Γ t (shape_of a)) (shapes_of-typing_in sig goals ctx) (Shaped-Typed typed) in
    let context = (instances_are_the_one_result sig goals [] d (scope_in sig others []) σ (taken_goals_go_to_others sig goals others σ takes [] [] refl)).4 ctx shaped in
    let inside = instances_are_the_one_result sig goals ctx d (scope_in sig others placed) σ (taken_goals_go_to_others sig goals others σ takes ctx placed ((instances_keep_shapes goals σ).1 ctx)) in
    let type = inside.2 a shaped_a in
    let term = inside.0 t (shape_of a) shaped_t in
    let kept = (instantiations_keep_types sig goals others σ takes ctx placed shaped ((context.0 placed).1 refl)).0 t r a c shaped_a typed ((type.0 c).1 refl) ((term.0 r).1 refl) in
    (has_type_is_typing sig others placed takes.of_signature takes.of_others context.1 r c type.1).1 kept
