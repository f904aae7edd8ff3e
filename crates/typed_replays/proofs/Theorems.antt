-- A theorem's type, which speaks of no goal: it stays under assignments, and what is typed at it as a script is followed.
use Rattle.std.proofs.Common.{◌≡◌, ℕ, Some, None, List, [], ◌∷◌, length, refl, sym, ap, ◌∙◌, subst, arith}
use Rattle.std.proofs.lemmas.List.Elements.{All-nil, All-cons}
use Rattle.lf_definitions.specs.Syntax.{LfHead, bound, constant, metavariable, LfTerm, at, lams, SimpleType, base, arrows, arity, LfType, atomic, Context, pis, shape_of, shapes_of_types, binders_of, conclusion_atom}
use Rattle.lf_definitions.specs.Shaping.{Shaped, ShapedType}
use Rattle.lf_definitions.specs.ShapedGoals.{shaped_empty, kind_shapes_in, scope_in, ShapedTypeIn, ShapedContextIn}
use Rattle.lf_definitions.specs.Occurrence.{OccursIn}
use Rattle.lf_definitions.specs.Substitution.{stays}
use Rattle.lf_definitions.specs.Expansion.{own_variables}
use Rattle.lf_definitions.specs.Instantiation.{Assignment, instantiating, InstantiatedType, InstantiatedContext}
use Rattle.lf_definitions.specs.Typing.{Typed, Formed, LfGoal, goal_type}
use Rattle.lf_definitions.specs.Signatures.{LfSignature, kinds_in, typing_in, constant_types, FormedSignature}
use Rattle.lf_definitions.specs.GoalLists.{AreDistinct, FormedGoals, FormedGoal, all_goals, opening}
use Rattle.lf_definitions.proofs.ShapedGoals.{ScopeGrows, ShapedType-grown, ShapedContext-grown, ShapedContext-pis, ShapedType-under_pis, ShapedTyping-typing_in, ShapedSignature-FormedSignature, shapes_of-typing_in}
use Rattle.lf_definitions.proofs.Telescopes.{next_by-metavariable}
use Rattle.lf_definitions.proofs.Typing.{Shaped-Typed, ShapedType-Formed, shape_of-pis}
use Rattle.head_laws.proofs.LookupLaws.{typed_heads_are_known}
use Rattle.typing_laws.specs.InstantiationLaws.{TakesGoals}
use Rattle.typing_laws.proofs.Binders.{arity_of, typed_lams}
use Rattle.typing_laws.proofs.ClosedTypes.{ShapedGoals-FormedGoals}
use Rattle.typing_laws.proofs.EtaTyping.{eta_forms_have_their_types}
use Rattle.typing_laws.proofs.Fixing.{kept_type, kept_context}
use Rattle.typing_laws.proofs.GoalLists.{goals_are_their_types, goals_grow}
use Rattle.typing_laws.proofs.Instantiation.{instantiations_keep_types}
use Rattle.lf_functions.specs.Instances.{goals_depth, instance_of}
use Rattle.lf_functions.proofs.Results.{instances_are_the_one_result}
use Rattle.lf_functions.proofs.TypedInstances.{taken_goals_go_to_others}
use Rattle.opening_laws.proofs.Numbers.{more_goals}
use Rattle.opening_laws.proofs.Shapes.{metavariable_under_all, whole_type}
use Rattle.derivations.specs.Replays.{own_term}
use Rattle.typed_steps.proofs.Closing.{under_typed_lams}

module _ (sig : LfSignature) (of_sig : FormedSignature sig) (a : LfType) (formed : Formed (kinds_in sig) (typing_in sig [] []) a) where
  abbrev pub Binders : Context
  Binders = binders_of a

  abbrev pub End : LfType
  End = atomic (conclusion_atom a)

  whole : pis Binders End ≡ a
  whole = whole_type a

  shaped : ShapedTypeIn sig [] [] (pis Binders End)
  shaped = subst (ShapedTypeIn sig [] []) (sym whole) (subst (λ Γ. ShapedType (kind_shapes_in sig) Γ a) (shapes_of-typing_in sig [] []) (ShapedType-Formed formed))

  binders_shaped : ShapedContextIn sig [] [] Binders
  binders_shaped = ShapedContext-pis Binders End shaped

  end_shaped : ShapedTypeIn sig [] Binders End
  end_shaped = ShapedType-under_pis Binders End shaped

  among : (goals : List LfGoal) (ctx : Context) → ScopeGrows (scope_in sig [] ctx) (scope_in sig goals ctx)
  among goals ctx = more_goals (shapes_of_types (constant_types sig)) [] goals (shapes_of_types ctx)

  binders_among : (goals : List LfGoal) → ShapedContextIn sig goals [] Binders
  binders_among goals = ShapedContext-grown binders_shaped (scope_in sig goals []) (among goals [])

  end_among : (goals : List LfGoal) → ShapedTypeIn sig goals Binders End
  end_among goals = ShapedType-grown end_shaped (scope_in sig goals Binders) (among goals Binders)

  -- Where no goal is known, every head stays.
  heads_stay : (σ : Assignment) (ctx : Context) (h : LfHead) (s : SimpleType) → scope_in sig [] ctx h ≡ Some s → instantiating σ h ≡ stays h
  heads_stay σ ctx (bound n) s e = refl
  heads_stay σ ctx (constant c) s e = refl
  heads_stay σ ctx (metavariable g) s e = absurd (none (sym (metavariable_under_all (shapes_of_types ctx) (scope_in sig [] []) g) ∙ e))
    where
      none : None ≡ Some s → ⊥
      none f = absurd cc

  binders_stay : (σ : Assignment) → InstantiatedContext σ Binders Binders
  binders_stay σ = kept_context binders_shaped (instantiating σ) (heads_stay σ [])

  end_stays : (σ : Assignment) → InstantiatedType σ End End
  end_stays σ = kept_type end_shaped (instantiating σ) (heads_stay σ Binders)

  -- A term of the theorem, under its binders, among some goals.
  abbrev pub IsProof : List LfGoal → LfTerm → Type 0
  IsProof goals t = Typed (typing_in sig goals Binders) t End

  -- An assignment that takes goals with their types carries it on.
  pub carried_on : (goals others : List LfGoal) (σ : Assignment) → TakesGoals sig goals others σ → (t : LfTerm) → IsProof goals t → IsProof others (instance_of goals σ t)
  carried_on goals others σ takes t typed =
      let goes = taken_goals_go_to_others sig goals others σ takes Binders Binders refl in
      let one = (instances_are_the_one_result sig goals Binders (goals_depth goals) (scope_in sig others Binders) σ goes).0 t base
      (subst (λ Γ. Shaped Γ t base) (shapes_of-typing_in sig goals Binders) (Shaped-Typed typed)) in
      (instantiations_keep_types sig goals others σ takes Binders Binders (binders_among goals) (binders_stay σ)).0 t (instance_of goals σ t) End End (end_among goals) typed (end_stays σ)
      ((one.0 (instance_of goals σ t)).1 refl)

  -- With no goal left, the abstraction over the binders is a closed term of the type.
  pub closes_theorem : (t : LfTerm) → IsProof [] t → Typed (typing_in sig [] []) (lams (length Binders) t) a × ((m : ℕ) → OccursIn (metavariable m) (lams (length Binders) t) → ⊥)
  closes_theorem t typed = (all, λ m o. none m ((typed_heads_are_known (typing_in sig [] []) (metavariable m)).0 (lams (length Binders) t) a all o))
    where
      all : Typed (typing_in sig [] []) (lams (length Binders) t) a
      all = subst (Typed (typing_in sig [] []) (lams (length Binders) t)) whole (typed_lams Binders (typing_in sig [] []) t End typed)

      none : (m : ℕ) → (b : LfType) × (None ≡ Some b) → ⊥
      none m (b, e) = absurd cc

  -- The opening list is well formed, and its metavariable applied to its own variables is a term of the theorem.
  abbrev First : LfGoal
  First = record { id = 0; context = Binders; target = conclusion_atom a }

  alone : AreDistinct (First ∷ [])
  alone i j d less within = absurd (omega (arith, less, within))

  pub opening_formed : FormedGoals sig (all_goals (opening a))
  opening_formed = (alone, All-cons (FormedGoal sig (First ∷ [])) First [] first_formed (All-nil (FormedGoal sig (First ∷ []))))
    where
      first_formed : FormedGoal sig (First ∷ []) First
      first_formed =
          (goals_are_their_types sig (First ∷ []) First).1
          (((goals_grow sig [] (First ∷ []) (All-nil _) alone).0 []).1 (goal_type First) (subst (Formed (kinds_in sig) (typing_in sig [] [])) (sym whole) formed))

  pub opening_typed : IsProof (all_goals (opening a)) (own_term a)
  opening_typed =
      let B = typing_in sig (First ∷ []) [] in
      let shaped_B = ShapedTyping-typing_in sig (First ∷ []) [] (ShapedSignature-FormedSignature sig of_sig) (ShapedGoals-FormedGoals sig (First ∷ []) opening_formed) shaped_empty in
      let shape : shape_of a ≡ arrows (shapes_of_types Binders) base = ap shape_of (sym whole) ∙ shape_of-pis Binders (conclusion_atom a).atom_family (conclusion_atom a).atom_args in
      let count : arity (shape_of a) ≡ length Binders = ap arity shape ∙ arity_of Binders in
      let typed = eta_forms_have_their_types (kinds_in sig) B shaped_B (metavariable 0) a (ap Some whole) in
      under_typed_lams Binders B (own_term a) End
      (subst (λ l. Typed B (lams l (own_term a)) (pis Binders End)) count
      (subst (λ h. Typed B (lams (arity (shape_of a)) (at h (own_variables (shape_of a)))) (pis Binders End)) (next_by-metavariable (arity (shape_of a)) 0)
      (subst (Typed B _) (sym whole) typed)))
