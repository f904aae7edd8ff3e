-- Where an application closes its goal, the fresh goals that are left are well formed.
use Rattle.std.proofs.Common.{◌≡◌, ℕ, List, [], length, All, refl, sym, ap, ◌∙◌, subst, arith}
use Rattle.std.specs.Prelude.{Contains}
use Rattle.std.proofs.lemmas.List.Elements.{All-contains, All-contains_itself}
use Rattle.goal_lists.proofs.Leaving.{All-parts}
use Rattle.lf_definitions.specs.Syntax.{metavariable, LfHead, at, Spine, no_args, LfType, atomic, Context, pis, shape_of, shapes_of_types, shape_size, binders_of}
use Rattle.lf_definitions.specs.Renaming.{rename_type}
use Rattle.lf_definitions.specs.Shaping.{Scope, ShapedSpine, shaped_none}
use Rattle.lf_definitions.specs.ShapedGoals.{ShapedContext, shaped_empty, ShapedTyping, scope_in, kind_shapes_in, ShapedTypeIn, ShapedGoal}
use Rattle.lf_definitions.specs.Occurrence.{OccursIn, occurs_args}
use Rattle.lf_definitions.specs.Substitution.{stays, up_by, SubstitutedType, substituted_none}
use Rattle.lf_definitions.specs.Replacements.{Goes}
use Rattle.lf_definitions.specs.Instantiation.{instantiating, InstantiatedSpine, InstantiatedType, InstantiatedContext, InstantiatedGoal}
use Rattle.lf_definitions.specs.Typing.{Typing, Typed, TypedSpine, Formed, FormedContext, LfGoal, goal_type}
use Rattle.lf_definitions.specs.Signatures.{LfSignature, constant_types, kinds_in, typing_in}
use Rattle.lf_definitions.specs.GoalLists.{LfGoals, FormedGoal}
use Rattle.lf_definitions.proofs.Options.{Some-Some}
use Rattle.lf_definitions.proofs.ShapedGoals.{ShapedType-grown, ShapedTyping-typing_in, ShapedContext-FormedContext, shapes_of-typing_in}
use Rattle.lf_definitions.proofs.Uniqueness.{unique_type}
use Rattle.typing_laws.proofs.GoalLists.{goals_are_their_types, InstantiatedType-goal_type}
use Rattle.typing_laws.proofs.Instantiation.{instantiations_keep_what_is_formed}
use Rattle.typing_laws.proofs.TypedReplacements.{GoesTyped-stays}
use Rattle.lf_functions.specs.Instances.{instance_of, instance_of_spine, instance_of_goal}
use Rattle.lf_functions.proofs.Parts.{replaced-at}
use Rattle.lf_functions.proofs.Results.{instances_are_the_one_result}
use Rattle.opening_laws.specs.Openings.{keeping, IsOpened}
use Rattle.opening_laws.proofs.Laws.{openings_are_shaped}
use Rattle.opening_laws.proofs.Numbers.{more_goals}
use Rattle.opening_laws.proofs.Shapes.{goal_type-fresh_goal}
use Rattle.applications.proofs.OpenedTypes.{openings_are_functions}
use Rattle.applications.specs.Methods.{LfCandidate, closes}
use Rattle.applications.specs.Applications.{LfApplication, completion}
use Rattle.completion_laws.proofs.Scopes.{goes_inside}
use Rattle.typed_steps.proofs.Situations.{IsMade, shaped_signature, one_of}
use Rattle.typed_steps.proofs.Remaining.{Old, Everything, Whole, Put, After, Rest, besides, shaped_after, old_instance}
use Rattle.typed_steps.proofs.Contexts.{keeping_renames, instance_renamed, outside_type, kept_instances, split_pis}
use Rattle.typed_steps.proofs.Closing.{Goal, same_length, instance_there, takes_goals, closing_bodies_typed, becomes_typed, old_of_everything, BodiesAreTyped}
use Rattle.typed_steps.proofs.Opened.{HasFormedInstance, fresh_formed_from}
use Rattle.typed_steps.proofs.KeptContexts.{formed_over_kept}
use Rattle.typed_steps.proofs.Heads.{HeadThere, head_stays, head_there, spine_typed}
use Rattle.typed_steps.proofs.Composed.{Unifier, not_itself, spine_whole}

module _ (sig : LfSignature) (list : LfGoals) (n : ℕ) (g : LfGoal) (c : LfCandidate) (a : LfApplication) (m : IsMade sig list n g c a) where
  abbrev Everywhere : List LfGoal
  Everywhere = Everything sig list n g c a m

  abbrev Later : List LfGoal
  Later = After sig list n g c a m

  abbrev pub Placed : Context
  Placed = (Goal sig list n g c a m).context

  -- The goal's instance under the whole assignment.
  whole_instance : (h : LfGoal) → Contains Everywhere h → InstantiatedGoal (Whole sig list n g c a m) h (instance_of_goal Everywhere (Whole sig list n g c a m) h)
  whole_instance h has =
      let goes = (besides sig list n g c a m).goes in
      let one = (instances_are_the_one_result sig Everywhere [] goes.0 (scope_in sig (Rest sig list n g c a m) []) (Whole sig list n g c a m) goes.1).5 h
      (All-contains (ShapedGoal sig Everywhere) Everywhere h m.may_be_used.goals_are_shaped.1 has) in
      (one.0 (instance_of_goal Everywhere (Whole sig list n g c a m) h)).1 refl

  pub placed_context : InstantiatedContext (Whole sig list n g c a m) g.context Placed
  placed_context =
      let one = one_of sig list n g c a m in
      subst (λ x. InstantiatedContext (Whole sig list n g c a m) g.context x.context) (old_instance sig list n g c a m g one)
      (whole_instance g (old_of_everything sig list n g c a m g one)).of_context

  pub formed_goal : BodiesAreTyped sig list n g c a m → FormedGoal sig Later (Goal sig list n g c a m)
  formed_goal typed =
      let one = one_of sig list n g c a m in
      (instantiations_keep_what_is_formed sig (Old sig list n g c a m) Later (Put sig list n g c a m) (takes_goals sig list n g c a m typed)).1 g (Goal sig list n g c a m)
      (All-contains (FormedGoal sig (Old sig list n g c a m)) (Old sig list n g c a m) g m.goals.1 one) (instance_there sig list n g c a m g one).0

  -- what the head becomes
  pub spine_of_head : (h : LfHead) (ts : Spine) → instantiating (Unifier sig list n g c a m) h ≡ stays h →
      instance_of Everywhere (Unifier sig list n g c a m) (at h ts) ≡ at h (instance_of_spine Everywhere (Unifier sig list n g c a m) ts)
  unfolding instance_of instance_of_spine
  spine_of_head h ts stay = replaced-at _ (instantiating (Unifier sig list n g c a m)) h h ts stay

  -- The opening, and what is shaped of it.
  opening : IsOpened g.context m.opens.kept m.opens.fixed n m.opens.type c.opened
  opening = (openings_are_functions sig (Old sig list n g c a m) g.context m.opens.kept m.opens.fixed n m.opens.type m.opens.may_be_opened c.opened).1 m.opens.is_opening

  terms_shaped : ShapedSpine (scope_in sig Everywhere g.context) c.opened.terms (shape_of m.opens.type)
  terms_shaped = (openings_are_shaped sig (Old sig list n g c a m) g.context m.opens.kept m.opens.fixed n m.opens.type m.opens.may_be_opened c.opened opening).0

  type_shaped : ShapedTypeIn sig Everywhere g.context m.opens.type
  type_shaped =
      ShapedType-grown m.opens.may_be_opened.type_is_shaped (scope_in sig Everywhere g.context)
      (more_goals (shapes_of_types (constant_types sig)) (Old sig list n g c a m) c.opened.fresh (shapes_of_types g.context))

  abbrev There : Scope
  There = scope_in sig (Rest sig list n g c a m) g.context

  goes_there : Goes (besides sig list n g c a m).goes.0 (scope_in sig Everywhere g.context) There (instantiating (Whole sig list n g c a m))
  goes_there =
      goes_inside (besides sig list n g c a m).goes.0 (shapes_of_types g.context) (scope_in sig Everywhere []) (scope_in sig (Rest sig list n g c a m) []) (Whole sig list n g c a m)
      (besides sig list n g c a m).closed (besides sig list n g c a m).goes.1

  abbrev Outside : Typing
  Outside = typing_in sig Later []

  shaped_outside : ShapedTyping (kinds_in sig) Outside
  shaped_outside = ShapedTyping-typing_in sig Later [] (shaped_signature sig list n g c a m) (shaped_after sig list n g c a m) shaped_empty

  module _ (is_closing : c.outcome ≡ closes) where
    done_is : record { becomes_term = instance_of Everywhere (Unifier sig list n g c a m) (at c.head c.opened.terms); more = [] } ≡ m.counted.done
    done_is = Some-Some (sym (ap (completion n Everywhere g c (Unifier sig list n g c a m)) is_closing) ∙ m.counted.completes)

    pub nothing_more : m.counted.done.more ≡ []
    nothing_more = ap (λ d. d.more) (sym done_is)

    pub closing_typed : BodiesAreTyped sig list n g c a m
    closing_typed = closing_bodies_typed sig list n g c a m nothing_more

    formed_placed : FormedContext (kinds_in sig) Outside Placed
    formed_placed = (formed_goal closing_typed).0

    head : HeadThere sig Later (Whole sig list n g c a m) Placed c.head m.opens.type
    head =
        head_there sig m.signature Later (shaped_after sig list n g c a m) (Whole sig list n g c a m) (besides sig list n g c a m).closed g.context Placed placed_context formed_placed c.head m.opens.type
        m.opens.has_type

    abbrev Made : Spine
    Made = instance_of_spine Everywhere (Unifier sig list n g c a m) c.opened.terms

    becomes_is : m.counted.done.becomes_term ≡ at c.head Made
    becomes_is = ap (λ d. d.becomes_term) (sym done_is) ∙ spine_of_head c.head c.opened.terms (head_stays sig g.context c.head m.opens.type m.opens.has_type (Unifier sig list n g c a m))

    made_typed : TypedSpine (typing_in sig Later Placed) stays Made (binders_of head.type_there)
    made_typed =
        spine_typed (subst (λ t. Typed (typing_in sig Later Placed) t (atomic (Goal sig list n g c a m).target)) becomes_is (becomes_typed sig list n g c a m closing_typed)) head.type_there head.has_it

    made_is_instance : InstantiatedSpine (Whole sig list n g c a m) c.opened.terms Made
    made_is_instance =
        let one = (instances_are_the_one_result sig Everywhere g.context (besides sig list n g c a m).goes.0 There (Whole sig list n g c a m) goes_there).1 c.opened.terms (shape_of m.opens.type) terms_shaped in
        (one.0 Made).1 (sym (spine_whole sig list n g c a m c.opened.terms (shape_of m.opens.type) terms_shaped
        (λ o. not_itself sig list n g c a m (subst (λ t. OccursIn (metavariable g.id) t) (sym becomes_is) (occurs_args (metavariable g.id) c.head Made o)))))

    shaped_there : ShapedTyping (kinds_in sig) (typing_in sig Later Placed)
    shaped_there =
        ShapedTyping-typing_in sig Later Placed (shaped_signature sig list n g c a m) (shaped_after sig list n g c a m)
        (subst (λ Γ. ShapedContext (kind_shapes_in sig) Γ Placed) (shapes_of-typing_in sig Later []) (ShapedContext-FormedContext formed_placed))

    abbrev IsFormedThere : LfGoal → Type 0
    IsFormedThere =
        HasFormedInstance (kinds_in sig) (Whole sig list n g c a m) (besides sig list n g c a m).closed (besides sig list n g c a m).goes.0 (scope_in sig Everywhere g.context) There goes_there
        (typing_in sig Later Placed) shaped_there m.opens.kept (length g.context) opening.entries

    fresh_formed : All IsFormedThere c.opened.fresh
    fresh_formed =
        fresh_formed_from (kinds_in sig) (Whole sig list n g c a m) (besides sig list n g c a m).closed (besides sig list n g c a m).goes.0 (scope_in sig Everywhere g.context) There goes_there
        (typing_in sig Later Placed) shaped_there m.opens.kept (length g.context) opening.entries opening.opened [] no_args no_args refl shaped_none substituted_none terms_shaped type_shaped stays refl Made
        made_is_instance head.type_there head.is_instance (shape_size (shape_of head.type_there)) (typing_in sig Later Placed) shaped_there head.is_formed
        (GoesTyped-stays (shape_size (shape_of head.type_there)) (typing_in sig Later Placed)) ((λ k. refl), (λ k. refl)) (omega arith) made_typed

    -- So each fresh goal's instance is a well-formed goal: its type is that of the kept entries over what is inside.
    formed_by_parts : (x : LfGoal) (inside d : LfType) → InstantiatedType (Whole sig list n g c a m) (rename_type (keeping m.opens.kept (length g.context)) inside) d → Formed (kinds_in sig) (typing_in sig Later Placed) d →
        (cs : Context) (end : LfType) → goal_type x ≡ pis cs end → InstantiatedContext (Whole sig list n g c a m) opening.entries cs → InstantiatedType (Whole sig list n g c a m) inside end → FormedGoal sig Later x
    formed_by_parts x inside d result formed cs end type_is entries_put inside_put =
        let whole = Whole sig list n g c a m in
        let closed = (besides sig list n g c a m).closed in
        let kept = m.opens.kept in
        let seen : rename_type (keeping kept (length Placed)) end ≡ d =
        ap (λ l. rename_type (keeping kept l) end) (same_length sig list n g c a m)
        ∙ unique_type (instance_renamed whole closed (keeping kept (length g.context)) (keeping_renames kept (length g.context)) inside end inside_put) result in
        let there = formed_over_kept (kinds_in sig) Outside shaped_outside (λ k. refl) Placed kept cs (kept_instances whole closed opening.are_kept Placed cs placed_context entries_put) formed_placed end
        (subst (Formed (kinds_in sig) (typing_in sig Later Placed)) (sym seen) formed) in
        (goals_are_their_types sig Later x).1 (subst (Formed (kinds_in sig) Outside) (sym type_is) there)

    fresh_goal_formed : (f : LfGoal) → Contains c.opened.fresh f → IsFormedThere f → FormedGoal sig Later (instance_of_goal Everywhere (Whole sig list n g c a m) f)
    fresh_goal_formed f has (inside, f_is, d, result, formed) = by_parts (split_pis opening.entries inside (subst (λ t. InstantiatedType (Whole sig list n g c a m) t (goal_type x)) type_is put))
      where
        x : LfGoal
        x = instance_of_goal Everywhere (Whole sig list n g c a m) f

        type_is : goal_type f ≡ pis opening.entries inside
        type_is = ap goal_type f_is ∙ goal_type-fresh_goal f.id opening.entries inside

        everywhere : Contains Everywhere f
        everywhere = All-contains (Contains Everywhere) c.opened.fresh f (All-parts (Contains Everywhere) (Old sig list n g c a m) c.opened.fresh (All-contains_itself Everywhere)).1 has

        put : InstantiatedType (Whole sig list n g c a m) (goal_type f) (goal_type x)
        put = InstantiatedType-goal_type (Whole sig list n g c a m) f x (whole_instance f everywhere)

        by_parts : (cs : Context) × (end : LfType) × (goal_type x ≡ pis cs end) × InstantiatedContext (Whole sig list n g c a m) opening.entries cs
            × SubstitutedType (up_by (length opening.entries) (instantiating (Whole sig list n g c a m))) inside end → FormedGoal sig Later x
        by_parts (cs, end, is, entries_put, inside_put) =
            formed_by_parts x inside d result formed cs end is entries_put (outside_type (Whole sig list n g c a m) (besides sig list n g c a m).closed (length opening.entries) inside end inside_put)

    pub fresh_goals_formed : All (λ f. FormedGoal sig Later (instance_of_goal Everywhere (Whole sig list n g c a m) f)) c.opened.fresh
    fresh_goals_formed = λ i d less. fresh_goal_formed _ (All-contains_itself c.opened.fresh i d less) (fresh_formed i d less)
