-- An assignment that keeps the types of goals goes from one typing to another, in every context.
use Rattle.std.proofs.Common.{◌≡◌, ℕ, zero, suc, ◌<◌, Option, Some, None, option_map, List, [], length, refl, sym, ap, ◌∙◌, subst}
use Rattle.lf_definitions.specs.Syntax.{bound, constant, metavariable, LfTerm, shape_of, shape_size, LfType, Context, atomic}
use Rattle.lf_definitions.specs.Renaming.{next, next_by}
use Rattle.lf_definitions.specs.Shaping.{ShapedType}
use Rattle.lf_definitions.specs.Substitution.{Image, stays, becomes, rename_image, Replacement, up, up_by}
use Rattle.lf_definitions.specs.Instantiation.{Assignment, assigned, instantiating, InstantiatedType, InstantiatedContext, InstantiatedGoal}
use Rattle.lf_definitions.specs.Typing.{Typing, Typed, Kinds, LfGoal, type_of_metavariable, shapes_of}
use Rattle.lf_definitions.specs.Signatures.{LfSignature, kinds_in, typing_in}
use Rattle.lf_definitions.specs.GoalLists.{FormedGoal}
use Rattle.lf_definitions.specs.ShapedGoals.{ShapedContext, shaped_empty, kind_shapes_in, ShapedContextIn, ShapedTyping}
use Rattle.lf_definitions.proofs.Totality.{total}
use Rattle.lf_definitions.proofs.Types.{shape_of-SubstitutedType, total_type}
use Rattle.lf_definitions.proofs.Typing.{Shaped-Typed}
use Rattle.lf_definitions.proofs.Telescopes.{up_by-constant, up_by-metavariable, next_by-constant, next_by-metavariable}
use Rattle.lf_definitions.proofs.Variables.{with_context-metavariable}
use Rattle.lf_definitions.proofs.ShapedGoals.{ShapedTyping-head, ShapedTyping-typing_in, shapes_of-typing_in}
use Rattle.typing_laws.specs.TypedReplacements.{HasTypeOf, typed_stays, typed_becomes, GivesType, GoesTyped}
use Rattle.typing_laws.specs.InstantiationLaws.{KeepsGoal, TakesGoals, InstantiationsKeepTypes, InstantiationsHaveResults, InstantiationsKeepWhatIsFormed}
use Rattle.typing_laws.proofs.Fixing.{Fixes, fixed, Agrees, agreed_type, kept_type}
use Rattle.typing_laws.proofs.Binders.{total_context}
use Rattle.typing_laws.proofs.FoundGoals.{goals_bound, found}
use Rattle.typing_laws.proofs.TypedReplacements.{Goes-GoesTyped}
use Rattle.typing_laws.proofs.ClosedTypes.{closed_scope, Keeps-without_variables, KeepsKinds-constants, ShapedGoal-FormedGoal}
use Rattle.typing_laws.proofs.Placing.{GoesTyped-up_by, shaped_placed}
use Rattle.typing_laws.proofs.Laws.{replacements_keep_types, replacements_keep_what_is_formed}

-- A replacement may be exchanged for one that does the same to the heads that occur.
GoesTyped-agreed : (kinds : Kinds) (p : ℕ) (Γ Δ : Typing) (σ ρ : Replacement) → ShapedTyping kinds Γ → Agrees (shapes_of Γ) σ ρ → GoesTyped p Γ Δ σ → GoesTyped p Γ Δ ρ
GoesTyped-agreed kinds p Γ Δ σ ρ shaped agrees goes h a e =
    let g = goes h a e in
    (g.0, agreed_type (ShapedTyping-head kinds Γ shaped h a e) σ ρ agrees g.1, subst (λ i. HasTypeOf Δ p i g.0) (agrees h (shape_of a) (ap (option_map shape_of) e)) g.2)

-- Variables stay.
up_by-variables : (n : ℕ) (σ : Replacement) → ((i : ℕ) → σ (bound i) ≡ stays (bound i)) → (i : ℕ) → up_by n σ (bound i) ≡ stays (bound i)
up_by-variables zero σ stay = stay
up_by-variables (suc n) σ stay = up_by-variables n (up σ) under
  where
    under : (i : ℕ) → up σ (bound i) ≡ stays (bound i)
    under zero = refl
    under (suc i) = ap (rename_image next) (stay i)

module _ (sig : LfSignature) (goals others : List LfGoal) (σ : Assignment) (takes : TakesGoals sig goals others σ) where
  open takes use {of_signature, of_goals, of_others, keeps}

  abbrev ρ : Replacement
  ρ = instantiating σ

  abbrev before : Typing
  before = typing_in sig goals []

  abbrev after : Typing
  after = typing_in sig others []

  abbrev p : ℕ
  p = goals_bound goals

  shaped_before : ShapedTyping (kinds_in sig) before
  shaped_before = ShapedTyping-typing_in sig goals [] of_signature of_goals shaped_empty

  shaped_after : ShapedTyping (kinds_in sig) after
  shaped_after = ShapedTyping-typing_in sig others [] of_signature of_others shaped_empty

  -- the image of a goal
  at_goal : (g : ℕ) (a : LfType) → type_of_metavariable goals g ≡ Some a → GivesType after p ρ (ρ (metavariable g)) a
  at_goal n a e =
      let r = found (KeepsGoal sig others σ) goals keeps n a e in
      let g = r.0 in
      let k = r.3 in
      let result : InstantiatedType σ a k.0 = subst (λ b. InstantiatedType σ b k.0) r.2 k.1 in
      let small : shape_size (shape_of k.0) < p = subst (λ s. shape_size s < p) (sym (shape_of-SubstitutedType result)) r.4 in
      let image : (o : Option LfTerm) → σ g.id ≡ o → HasTypeOf after p (assigned n o) k.0 = λ o is. put g k.0 n r.1 small k.2 k.3 o is in
      (k.0, result, subst (λ o. HasTypeOf after p (assigned n o) k.0) (ap σ r.1) (image (σ g.id) refl))
    where
      put : (g : LfGoal) (c : LfType) (n : ℕ) → g.id ≡ n → shape_size (shape_of c) < p → ((u : LfTerm) → σ g.id ≡ Some u → Typed after u c) → (σ g.id ≡ None → type_of_metavariable others g.id ≡ Some c) →
          (o : Option LfTerm) → σ g.id ≡ o → HasTypeOf after p (assigned n o) c
      put g c n same small typed stayed None is = typed_stays (ap (type_of_metavariable others) (sym same) ∙ stayed is)
      put g c n same small typed stayed (Some u) is = typed_becomes (typed u is) small

  goes_outside : GoesTyped p before after ρ
  goes_outside (bound n) a e = absurd cc
  goes_outside (constant c) a e = (a, kept_type ((closed_scope sig of_signature).of_constants c a e) ρ (Keeps-without_variables sig ρ (λ d. refl)), typed_stays e)
  goes_outside (metavariable g) a e = at_goal g a e

  -- What is put for goals speaks of no variable.
  outside_fixes : (n : ℕ) → Fixes (next_by n) (shapes_of after)
  outside_fixes n (bound i) s e = absurd cc
  outside_fixes n (constant c) s e = next_by-constant n c
  outside_fixes n (metavariable g) s e = next_by-metavariable n g

  closed_image : (n : ℕ) {i : Image} {c : LfType} → HasTypeOf after p i c → rename_image (next_by n) i ≡ i
  closed_image n (typed_stays {k = k} {c = c} e) = ap stays (outside_fixes n k (shape_of c) (ap (option_map shape_of) e))
  closed_image n (typed_becomes typed small) = ap becomes (fixed (Shaped-Typed typed) (next_by n) (outside_fixes n))

  up_by-constants : (n c : ℕ) → up_by n ρ (constant c) ≡ stays (constant c)
  up_by-constants n c = up_by-constant n c ρ ∙ ap stays (next_by-constant n c)

  -- So under binders the assignment is what it is outside.
  same_inside : (ctx : Context) → Agrees (shapes_of (typing_in sig goals ctx)) (up_by (length ctx) ρ) ρ
  same_inside ctx (bound i) s e = up_by-variables (length ctx) ρ (λ j. refl) i
  same_inside ctx (constant c) s e = up_by-constants (length ctx) c
  same_inside ctx (metavariable g) s e = known (typing_in sig goals ctx (metavariable g)) refl e
    where
      known : (o : Option LfType) → typing_in sig goals ctx (metavariable g) ≡ o → option_map shape_of o ≡ Some s → up_by (length ctx) ρ (metavariable g) ≡ ρ (metavariable g)
      known None is e = absurd cc
      known (Some a) is e = up_by-metavariable (length ctx) g ρ ∙ closed_image (length ctx) (at_goal g a (sym (with_context-metavariable ctx before g) ∙ is)).2

  shaped_context : (ctx : Context) → ShapedContextIn sig goals [] ctx → ShapedContext (kind_shapes_in sig) (shapes_of before) ctx
  shaped_context ctx shaped = subst (λ S. ShapedContext (kind_shapes_in sig) S ctx) (sym (shapes_of-typing_in sig goals [])) shaped

  module _ (ctx placed : Context) (shaped : ShapedContextIn sig goals [] ctx) (put : InstantiatedContext σ ctx placed) where
    abbrev inside : Typing
    inside = typing_in sig goals ctx

    abbrev instantiated : Typing
    instantiated = typing_in sig others placed

    shaped_inside : ShapedTyping (kinds_in sig) inside
    shaped_inside = ShapedTyping-typing_in sig goals ctx of_signature of_goals shaped

    shaped_instantiated : ShapedTyping (kinds_in sig) instantiated
    shaped_instantiated = shaped_placed (kinds_in sig) p put before after shaped_after (shaped_context ctx shaped) goes_outside

    goes_under : GoesTyped p inside instantiated (up_by (length ctx) ρ)
    goes_under = GoesTyped-up_by (kinds_in sig) p put before after shaped_before shaped_after (shaped_context ctx shaped) goes_outside

    goes_inside : GoesTyped p inside instantiated ρ
    goes_inside = GoesTyped-agreed (kinds_in sig) p inside instantiated (up_by (length ctx) ρ) ρ shaped_inside (same_inside ctx) goes_under

pub instantiations_keep_types : InstantiationsKeepTypes
instantiations_keep_types sig goals others σ takes ctx placed shaped put =
    let kept = replacements_keep_types (kinds_in sig) (typing_in sig goals ctx) (typing_in sig others placed) (p sig goals others σ takes) (instantiating σ)
    (shaped_inside sig goals others σ takes ctx placed shaped put) (shaped_instantiated sig goals others σ takes ctx placed shaped put) (goes_inside sig goals others σ takes ctx placed shaped put) in (
      λ t r a c shaped_a. kept.0 t r a c (subst (λ S. ShapedType (kind_shapes_in sig) S a) (sym (shapes_of-typing_in sig goals ctx)) shaped_a),
      λ ts vs bs cs shaped_bs. kept.1 ts vs bs cs (subst (λ S. ShapedContext (kind_shapes_in sig) S bs) (sym (shapes_of-typing_in sig goals ctx)) shaped_bs),
    )

pub instantiations_have_results : InstantiationsHaveResults
instantiations_have_results sig goals others σ takes ctx shaped =
    let ρ = instantiating σ in
    let n = p sig goals others σ takes in
    let outside = Goes-GoesTyped n (typing_in sig goals []) (typing_in sig others []) ρ (goes_outside sig goals others σ takes) in
    let c = total_context n (shaped_context sig goals others σ takes ctx shaped) (shapes_of (typing_in sig others [])) ρ outside in
    let inside = Goes-GoesTyped n (typing_in sig goals ctx) (typing_in sig others c.0) ρ (goes_inside sig goals others σ takes ctx c.0 shaped c.1) in (
      c,
      λ a shaped_a. let r = total_type n (subst (λ S. ShapedType (kind_shapes_in sig) S a) (sym (shapes_of-typing_in sig goals ctx)) shaped_a) (shapes_of (typing_in sig others c.0)) ρ inside in (r.0, r.1),
      λ t a typed. let r = total n (Shaped-Typed typed) (shapes_of (typing_in sig others c.0)) ρ inside in (r.0, r.1),
    )

pub instantiations_keep_what_is_formed : InstantiationsKeepWhatIsFormed
instantiations_keep_what_is_formed sig goals others σ takes = (
  λ ctx placed shaped put.
      replacements_keep_what_is_formed (kinds_in sig) (typing_in sig goals ctx) (typing_in sig others placed) (p sig goals others σ takes) (instantiating σ)
      (shaped_inside sig goals others σ takes ctx placed shaped put) (shaped_instantiated sig goals others σ takes ctx placed shaped put) (goes_inside sig goals others σ takes ctx placed shaped put)
      (KeepsKinds-constants sig takes.of_signature (instantiating σ) (λ c. refl)),
  goal,
)
  where
    goal : (g h : LfGoal) → FormedGoal sig goals g → InstantiatedGoal σ g h → FormedGoal sig others h
    goal g h formed result =
        let n = length g.context in
        let shaped = (ShapedGoal-FormedGoal sig goals g formed).0 in
        let outside = replacements_keep_what_is_formed (kinds_in sig) (typing_in sig goals []) (typing_in sig others []) (p sig goals others σ takes) (instantiating σ)
        (shaped_before sig goals others σ takes) (shaped_after sig goals others σ takes) (goes_outside sig goals others σ takes) (KeepsKinds-constants sig takes.of_signature (instantiating σ) (λ c. refl)) in
        let inside = replacements_keep_what_is_formed (kinds_in sig) (typing_in sig goals g.context) (typing_in sig others h.context) (p sig goals others σ takes) (up_by n (instantiating σ))
        (shaped_inside sig goals others σ takes g.context h.context shaped result.of_context) (shaped_instantiated sig goals others σ takes g.context h.context shaped result.of_context)
        (goes_under sig goals others σ takes g.context h.context shaped result.of_context)
        (KeepsKinds-constants sig takes.of_signature (up_by n (instantiating σ)) (up_by-constants sig goals others σ takes n)) in
        (outside.1 g.context h.context formed.0 result.of_context, inside.0 (atomic g.target) (atomic h.target) formed.1 result.of_target)
