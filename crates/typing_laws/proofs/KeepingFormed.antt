-- It keeps well-formed types and contexts, too.
use Rattle.std.proofs.Common.{ℕ, zero, subst₂}
use Rattle.lf_definitions.specs.Syntax.{bound, LfType, Context}
use Rattle.lf_definitions.specs.Renaming.{next}
use Rattle.lf_definitions.specs.Substitution.{stays, rename_image, Replacement, up, SubstitutedType, substituted_pi, substituted_family, SubstitutedContext, substituted_empty, substituted_entry}
use Rattle.lf_definitions.specs.Typing.{Typing, with_variable, Kinds, Formed, formed_pi, formed_family, FormedContext, formed_empty, formed_entry, shapes_of, shapes_of_kinds}
use Rattle.lf_definitions.specs.ShapedGoals.{ShapedTyping}
use Rattle.lf_definitions.proofs.Renaming.{extended-next}
use Rattle.lf_definitions.proofs.Types.{ShapedType-SubstitutedType}
use Rattle.lf_definitions.proofs.Typing.{ShapedType-Formed}
use Rattle.lf_definitions.proofs.ShapedGoals.{ShapedTyping-family, ShapedTyping-with_variable}
use Rattle.typing_laws.specs.TypedReplacements.{GoesTyped, KeepsKinds, IsShapedIn}
use Rattle.typing_laws.proofs.Binders.{SubstitutedContext-rename_context}
use Rattle.typing_laws.proofs.TypedReplacements.{next_keeps, closed_kind, Goes-GoesTyped, GoesTyped-up}
use Rattle.typing_laws.proofs.Keeping.{TypedSpine-SubstitutedSpine}

module _ (kinds : Kinds) (p : ℕ) where
  KeepsKinds-up : (Γ : Typing) (σ : Replacement) → ShapedTyping kinds Γ → KeepsKinds kinds σ → KeepsKinds kinds (up σ)
  KeepsKinds-up Γ σ shaped keeps f kind e =
      let closed = closed_kind kinds Γ shaped next next_keeps f kind e in
      subst₂ (SubstitutedContext (up σ)) closed closed
      (SubstitutedContext-rename_context (keeps f kind e) next next (up σ) (extended-next (stays (bound zero)) (λ h. rename_image next (σ h))))

  shaped_after : {Γ : Typing} {a c : LfType} → Formed kinds Γ a → (Δ : Typing) (σ : Replacement) → GoesTyped p Γ Δ σ → SubstitutedType σ a c → IsShapedIn kinds Δ c
  shaped_after {Γ} formed Δ σ goes result = ShapedType-SubstitutedType p (shapes_of_kinds kinds) (shapes_of Γ) (shapes_of Δ) σ (Goes-GoesTyped p Γ Δ σ goes) (ShapedType-Formed formed) result

  pub Formed-SubstitutedType : {Γ : Typing} {a : LfType} → Formed kinds Γ a → (Δ : Typing) (σ : Replacement) → ShapedTyping kinds Γ → ShapedTyping kinds Δ → GoesTyped p Γ Δ σ → KeepsKinds kinds σ →
      {c : LfType} → SubstitutedType σ a c → Formed kinds Δ c
  Formed-SubstitutedType (formed_pi {Γ = Γ} {a = a} x y) Δ σ shaped_Γ shaped_Δ goes keeps (substituted_pi {c = c} q r) =
      formed_pi (Formed-SubstitutedType x Δ σ shaped_Γ shaped_Δ goes keeps q)
      (Formed-SubstitutedType y (with_variable c Δ) (up σ) (ShapedTyping-with_variable kinds Γ a shaped_Γ (ShapedType-Formed x)) (ShapedTyping-with_variable kinds Δ c shaped_Δ (shaped_after x Δ σ goes q))
      (GoesTyped-up kinds p Γ Δ σ shaped_Γ shaped_Δ q goes) (KeepsKinds-up Γ σ shaped_Γ keeps) r)
  Formed-SubstitutedType (formed_family {Γ = Γ} {f = f} bs e typed) Δ σ shaped_Γ shaped_Δ goes keeps (substituted_family qs) =
      formed_family bs e (TypedSpine-SubstitutedSpine kinds p typed Δ σ shaped_Γ shaped_Δ goes (ShapedTyping-family kinds Γ shaped_Γ f bs e) (keeps f bs e) qs)

  pub FormedContext-SubstitutedContext : {Γ : Typing} {ctx : Context} → FormedContext kinds Γ ctx → (Δ : Typing) (σ : Replacement) → ShapedTyping kinds Γ → ShapedTyping kinds Δ → GoesTyped p Γ Δ σ → KeepsKinds kinds σ →
      {more : Context} → SubstitutedContext σ ctx more → FormedContext kinds Δ more
  FormedContext-SubstitutedContext formed_empty Δ σ shaped_Γ shaped_Δ goes keeps substituted_empty = formed_empty
  FormedContext-SubstitutedContext (formed_entry {Γ = Γ} {a = a} x xs) Δ σ shaped_Γ shaped_Δ goes keeps (substituted_entry {c = c} q qs) =
      formed_entry (Formed-SubstitutedType x Δ σ shaped_Γ shaped_Δ goes keeps q)
      (FormedContext-SubstitutedContext xs (with_variable c Δ) (up σ) (ShapedTyping-with_variable kinds Γ a shaped_Γ (ShapedType-Formed x)) (ShapedTyping-with_variable kinds Δ c shaped_Δ (shaped_after x Δ σ goes q))
      (GoesTyped-up kinds p Γ Δ σ shaped_Γ shaped_Δ q goes) (KeepsKinds-up Γ σ shaped_Γ keeps) qs)
