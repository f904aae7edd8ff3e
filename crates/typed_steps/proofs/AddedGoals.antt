-- Where an application adds a hypothesis, the one new goal is well formed, and no fresh goal is left.
use Rattle.std.proofs.Common.{◌≡◌, ℕ, Bool, true, Option, Some, None, List, [], ◌∷◌, All, length, refl, sym, ap, ap₂, ◌∙◌, subst}
use mathlib.Core.Path.{fun_ext}
use Rattle.std.specs.Prelude.{is_some}
use Rattle.std.specs.List.{list_all}
use Rattle.std.proofs.lemmas.Bool.{and_parts}
use Rattle.std.proofs.lemmas.List.Elements.{All-nil, All-cons, All-weaker}
use Rattle.lf_definitions.specs.Syntax.{bound, LfTerm, LfType, pi, atomic, Context}
use Rattle.lf_definitions.specs.Renaming.{next, Renaming, lifted, rename_type, raise_type}
use Rattle.lf_definitions.specs.Typing.{Typing, Typed, Formed, formed_pi, LfGoal}
use Rattle.lf_definitions.specs.Signatures.{LfSignature, kinds_in, typing_in}
use Rattle.lf_definitions.specs.GoalLists.{LfGoals, FormedGoal}
use Rattle.lf_definitions.proofs.Options.{None-Some}
use Rattle.lf_definitions.proofs.Renaming.{extended-next, rename_type-rename_type}
use Rattle.typing_laws.proofs.ClosedTypes.{shaped_typings_are_closed}
use Rattle.typing_laws.proofs.GoalLists.{goals_are_their_types}
use Rattle.lf_functions.specs.CompositionLaws.{instance_of_assigned}
use Rattle.opening_laws.specs.Openings.{keeping}
use Rattle.opening_laws.proofs.Kept.{keeping_type}
use Rattle.applications.specs.Methods.{LfCandidate, adds}
use Rattle.applications.specs.Applications.{LfApplication, returned}
use Rattle.typed_steps.proofs.Situations.{IsMade}
use Rattle.typed_steps.proofs.Remaining.{Everything, Whole, After, shaped_after, besides}
use Rattle.typed_steps.proofs.Contexts.{formed_outside}
use Rattle.typed_steps.proofs.Closing.{Goal, same_length}
use Rattle.typed_steps.proofs.KeptContexts.{formed_over_kept}
use Rattle.typed_steps.proofs.Heads.{HeadThere, head_there, formed_result}
use Rattle.typed_steps.proofs.Composed.{Unifier, Alone, follows}
use Rattle.typed_steps.proofs.ClosedGoals.{placed_context, formed_goal}
use Rattle.typed_steps.proofs.Added.{Fact, may, all_are_assigned}
use Rattle.typed_steps.proofs.Adding.{There, New_after, Inside_after, proof_after, proof_is, shaped_outside, shaped_there, new_type, target_seen, adding_typed}

-- A type from outside a binder is renamed as it is outside.
raised_outside : (ξ : Renaming) (a : LfType) → rename_type (lifted ξ) (raise_type a) ≡ raise_type (rename_type ξ a)
raised_outside ξ a = rename_type-rename_type a (lifted ξ) next ∙ ap (λ θ. rename_type θ a) (fun_ext (extended-next (bound 0) (λ h. next (ξ h)))) ∙ sym (rename_type-rename_type a next ξ)

-- where a test is passed by all
all_pass : (test : LfGoal → Bool) (goals : List LfGoal) → list_all test goals ≡ true → All (λ f. test f ≡ true) goals
all_pass test [] e = All-nil (λ f. test f ≡ true)
all_pass test (f ∷ rest) e = let parts = and_parts (test f) (list_all test rest) e in All-cons (λ x. test x ≡ true) f rest parts.0 (all_pass test rest parts.1)

module _ (sig : LfSignature) (list : LfGoals) (n : ℕ) (g : LfGoal) (c : LfCandidate) (a : LfApplication) (m : IsMade sig list n g c a) (kept : List ℕ) (is_adding : c.outcome ≡ adds kept) where
  abbrev Later : List LfGoal
  Later = After sig list n g c a m

  abbrev Instance : LfGoal
  Instance = Goal sig list n g c a m

  abbrev Placed : Context
  Placed = Instance.context

  abbrev Outside : Typing
  Outside = typing_in sig Later []

  abbrev Within : Typing
  Within = There sig list n g c a m kept is_adding

  formed_instance : FormedGoal sig Later Instance
  formed_instance = formed_goal sig list n g c a m (adding_typed sig list n g c a m kept is_adding)

  head : HeadThere sig Later (Whole sig list n g c a m) Placed c.head m.opens.type
  head =
      head_there sig m.signature Later (shaped_after sig list n g c a m) (Whole sig list n g c a m) (besides sig list n g c a m).closed g.context Placed (placed_context sig list n g c a m) formed_instance.0 c.head
      m.opens.type m.opens.has_type

  abbrev Hypothesis : LfType
  Hypothesis = atomic (Fact sig list n g c a m kept is_adding)

  fact_formed : Formed (kinds_in sig) Within Hypothesis
  fact_formed =
      formed_result (kinds_in sig) (subst (λ t. Typed Within t Hypothesis) (proof_is sig list n g c a m kept is_adding) (proof_after sig list n g c a m kept is_adding))
      (shaped_there sig list n g c a m kept is_adding) head.type_there head.has_it head.is_formed

  -- The hypothesis over the target, as they are seen from the whole context.
  inside_seen : rename_type (keeping kept (length Placed)) (Inside_after sig list n g c a m kept is_adding) ≡ pi Hypothesis (raise_type (atomic Instance.target))
  inside_seen =
      ap (λ l. rename_type (keeping kept l) (Inside_after sig list n g c a m kept is_adding)) (same_length sig list n g c a m)
      ∙ ap₂ pi (keeping_type kept (length g.context) Hypothesis (may sig list n g c a m kept is_adding).fact_is_clean)
      (raised_outside (keeping kept (length g.context)) (atomic (returned kept g.context Instance.target)) ∙ ap raise_type (target_seen sig list n g c a m kept is_adding))

  inside_formed : Formed (kinds_in sig) Within (pi Hypothesis (raise_type (atomic Instance.target)))
  inside_formed =
      let closed = shaped_typings_are_closed (kinds_in sig) Within (shaped_there sig list n g c a m kept is_adding) in
      formed_pi fact_formed (formed_outside (kinds_in sig) closed.1 (Hypothesis ∷ []) Within closed.0 (atomic Instance.target) formed_instance.1)

  pub new_goal_formed : FormedGoal sig Later (New_after sig list n g c a m kept is_adding)
  new_goal_formed =
      let type = new_type sig list n g c a m kept is_adding in
      (goals_are_their_types sig Later (New_after sig list n g c a m kept is_adding)).1
      (subst (Formed (kinds_in sig) Outside) (sym type.type_is)
      (formed_over_kept (kinds_in sig) Outside (shaped_outside sig list n g c a m kept is_adding) (λ k. refl) Placed kept type.among type.are_kept formed_instance.0
      (Inside_after sig list n g c a m kept is_adding) (subst (Formed (kinds_in sig) Within) (sym inside_seen) inside_formed)))

  -- Each fresh goal is assigned.
  assigned_whole : (f : LfGoal) → is_some (Unifier sig list n g c a m f.id) ≡ true → Whole sig list n g c a m f.id ≡ None → ⊥
  assigned_whole f passes none = step (Unifier sig list n g c a m f.id) refl passes
    where
      step : (o : Option LfTerm) → Unifier sig list n g c a m f.id ≡ o → is_some o ≡ true → ⊥
      step None e passed = absurd cc
      step (Some u) e passed =
          None-Some (follows sig list n g c a m f.id ∙ none) (ap (instance_of_assigned (Everything sig list n g c a m) (Alone sig list n g c a m) f.id) e)

  pub fresh_assigned : All (λ f. Whole sig list n g c a m f.id ≡ None → ⊥) c.opened.fresh
  fresh_assigned =
      All-weaker (λ f. is_some (Unifier sig list n g c a m f.id) ≡ true) (λ f. Whole sig list n g c a m f.id ≡ None → ⊥) assigned_whole c.opened.fresh
      (all_pass (λ f. is_some (Unifier sig list n g c a m f.id)) c.opened.fresh (all_are_assigned sig list n g c a m kept is_adding))
