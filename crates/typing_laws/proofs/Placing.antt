-- A list of typed terms put for variables, under local binders, goes from one typing to another.
use Rattle.std.proofs.Common.{◌≡◌, ℕ, ◌<◌, ◌≤◌, length, sym, subst, arith}
use Rattle.lf_definitions.specs.Syntax.{bound, constant, metavariable, Spine, base, arrows, shape_of, shapes_of_types, shape_size, Context}
use Rattle.lf_definitions.specs.Substitution.{stays, Replacement, up_by, push_all, SubstitutedContext, substituted_empty, substituted_entry}
use Rattle.lf_definitions.specs.Typing.{Typing, with_variable, with_context, TypedSpine, typed_none, typed_arg, Kinds, shapes_of, shapes_of_kinds}
use Rattle.lf_definitions.specs.ShapedGoals.{ShapedContext, shaped_entry, ShapedTyping, without_variables}
use Rattle.lf_definitions.specs.Laws.{image}
use Rattle.lf_definitions.proofs.Types.{shape_of-SubstitutedType, ShapedType-SubstitutedType}
use Rattle.lf_definitions.proofs.ShapedGoals.{shapes_of-under, ShapedTyping-with_variable, ShapedTyping-with_context}
use Rattle.lf_definitions.proofs.Laws.{images_are_by_number}
use Rattle.typing_laws.specs.TypedReplacements.{GoesTyped, KeepsKinds}
use Rattle.typing_laws.proofs.Fixing.{Keeps, kept_context}
use Rattle.typing_laws.proofs.Binders.{ShapedContext-SubstitutedContext}
use Rattle.typing_laws.proofs.TypedReplacements.{Goes-GoesTyped, GoesTyped-up, GoesTyped-push, GoesTyped-stays}

-- A replacement that keeps constants and metavariables leaves the kinds as they are.
abbrev pub KeepsGlobalHeads : Replacement → Type 0
KeepsGlobalHeads σ = ((c : ℕ) → σ (constant c) ≡ stays (constant c)) × ((g : ℕ) → σ (metavariable g) ≡ stays (metavariable g))

pub KeepsKinds-globals : (kinds : Kinds) (Γ : Typing) (σ : Replacement) → ShapedTyping kinds Γ → KeepsGlobalHeads σ → KeepsKinds kinds σ
KeepsKinds-globals kinds Γ σ shaped keeps f kind e = kept_context (shaped.of_families f kind e) σ kept
  where
    kept : Keeps (without_variables (shapes_of Γ)) σ
    kept (bound n) s e = absurd cc
    kept (constant c) s e = keeps.0 c
    kept (metavariable g) s e = keeps.1 g

pub image_keeps : (sub : Spine) (local : ℕ) → KeepsGlobalHeads (image sub local)
image_keeps sub local = let images = images_are_by_number sub local in (images.3, images.4)

module _ (kinds : Kinds) (p : ℕ) where
  pub GoesTyped-push_all : {Δ : Typing} {σ : Replacement} {sub : Spine} {inner : Context} → TypedSpine Δ σ sub inner → (Γ : Typing) → ShapedTyping kinds Γ →
      ShapedContext (shapes_of_kinds kinds) (shapes_of Γ) inner → shape_size (arrows (shapes_of_types inner) base) ≤ p → GoesTyped p Γ Δ σ → GoesTyped p (with_context inner Γ) Δ (push_all sub σ)
  GoesTyped-push_all typed_none Γ shaped shaped_inner small goes = goes
  GoesTyped-push_all (typed_arg {Γ = Δ} {σ = σ} {t = v} {a = a} {rest = rest} c put typed typeds) Γ shaped (shaped_entry x xs) small goes =
      let small_c : shape_size (shape_of c) < p = subst (λ s. shape_size s < p) (sym (shape_of-SubstitutedType put)) (omega (arith, small)) in
      GoesTyped-push_all typeds (with_variable a Γ) (ShapedTyping-with_variable kinds Γ a shaped x) (subst (λ S. ShapedContext (shapes_of_kinds kinds) S rest) (sym (shapes_of-under Γ a)) xs)
      (omega (arith, small)) (GoesTyped-push kinds p Γ Δ σ shaped put typed small_c goes)

  pub GoesTyped-up_by : {σ : Replacement} {local placed : Context} → SubstitutedContext σ local placed → (Γ Δ : Typing) → ShapedTyping kinds Γ → ShapedTyping kinds Δ →
      ShapedContext (shapes_of_kinds kinds) (shapes_of Γ) local → GoesTyped p Γ Δ σ → GoesTyped p (with_context local Γ) (with_context placed Δ) (up_by (length local) σ)
  GoesTyped-up_by substituted_empty Γ Δ shaped_Γ shaped_Δ shaped goes = goes
  GoesTyped-up_by (substituted_entry {σ = σ} {a = a} {c = c} {rest = rest} put puts) Γ Δ shaped_Γ shaped_Δ (shaped_entry x xs) goes =
      GoesTyped-up_by puts (with_variable a Γ) (with_variable c Δ) (ShapedTyping-with_variable kinds Γ a shaped_Γ x)
      (ShapedTyping-with_variable kinds Δ c shaped_Δ (ShapedType-SubstitutedType p (shapes_of_kinds kinds) (shapes_of Γ) (shapes_of Δ) σ (Goes-GoesTyped p Γ Δ σ goes) x put))
      (subst (λ S. ShapedContext (shapes_of_kinds kinds) S rest) (sym (shapes_of-under Γ a)) xs)
      (GoesTyped-up kinds p Γ Δ σ shaped_Γ shaped_Δ put goes)

  pub shaped_placed : {σ : Replacement} {local placed : Context} → SubstitutedContext σ local placed → (Γ Δ : Typing) → ShapedTyping kinds Δ → ShapedContext (shapes_of_kinds kinds) (shapes_of Γ) local →
      GoesTyped p Γ Δ σ → ShapedTyping kinds (with_context placed Δ)
  shaped_placed {σ} {placed = placed} put Γ Δ shaped_Δ shaped goes =
      ShapedTyping-with_context placed kinds Δ shaped_Δ (ShapedContext-SubstitutedContext p (shapes_of_kinds kinds) (shapes_of Γ) (shapes_of Δ) σ (Goes-GoesTyped p Γ Δ σ goes) shaped put)

-- what a list that is put for variables is to be
pub image_goes : (kinds : Kinds) (Γ : Typing) {sub : Spine} {inner local placed : Context} → ShapedTyping kinds Γ → ShapedContext (shapes_of_kinds kinds) (shapes_of Γ) inner →
    ShapedContext (shapes_of_kinds kinds) (shapes_of (with_context inner Γ)) local → TypedSpine Γ stays sub inner → SubstitutedContext (push_all sub stays) local placed →
    ShapedTyping kinds (with_context local (with_context inner Γ)) × ShapedTyping kinds (with_context placed Γ)
    × GoesTyped (shape_size (arrows (shapes_of_types inner) base)) (with_context local (with_context inner Γ)) (with_context placed Γ) (image sub (length local))
image_goes kinds Γ {sub} {inner} {local} {placed} shaped shaped_inner shaped_local typed put =
    let p = shape_size (arrows (shapes_of_types inner) base) in
    let inside = with_context inner Γ in
    let shaped_inside = ShapedTyping-with_context inner kinds Γ shaped shaped_inner in
    let goes : GoesTyped p inside Γ (push_all sub stays) = GoesTyped-push_all kinds p typed Γ shaped shaped_inner (omega arith) (GoesTyped-stays p Γ) in (
      ShapedTyping-with_context local kinds inside shaped_inside shaped_local,
      shaped_placed kinds p put inside Γ shaped shaped_local goes,
      GoesTyped-up_by kinds p put inside Γ shaped_inside shaped shaped_local goes,
    )
