-- A family with its arguments.
use Rattle.std.proofs.Common.{◌≡◌, ◌≢◌, ℕ, zero, suc, ◌≤◌, Option, Some, None, List, [], ◌∷◌, length, reverse, refl, sym, ap, ap₂, ◌∙◌, subst, arith}
use mathlib.Core.Path.{fun_ext}
use Rattle.lf_definitions.specs.Syntax.{Spine, family, Context, LfKind, args_count}
use Rattle.lf_definitions.specs.Renaming.{next_by, rename_context}
use Rattle.lf_definitions.specs.Substitution.{stays}
use Rattle.lf_definitions.specs.Typing.{Typing, TypedSpine, Kinds, Formed, formed_family, kinds_of, shapes_of_kinds}
use Rattle.lf_definitions.specs.Failures.{FailsSpine, FailsTypeFrom, fails_family, fails_family_count, fails_family_argument}
use Rattle.lf_definitions.specs.ShapedGoals.{ShapedTyping, ShapedContext}
use Rattle.lf_definitions.proofs.Renaming.{same_head, lifted-same_head, rename_type-same_head}
use Rattle.lf_definitions.proofs.ShapedGoals.{ShapedTyping-family}
use Rattle.lf_kernel.specs.Checks.{Walks}
use Rattle.lf_kernel.specs.ShapedPlaces.{binders_scope}
use Rattle.lf_kernel.proofs.Paths.{walks_map}

rename_context-same_head : (ctx : Context) → rename_context same_head ctx ≡ ctx
rename_context-same_head [] = refl
rename_context-same_head (a ∷ ctx) = ap₂ (λ x (rest : Context). x ∷ rest) (rename_type-same_head a) (ap (λ ξ. rename_context ξ ctx) (fun_ext lifted-same_head) ∙ rename_context-same_head ctx)

pub no_family : (kinds : List LfKind) (f : ℕ) → length kinds ≤ f → kinds_of kinds f ≡ None
no_family [] f past = refl
no_family (k ∷ kinds) zero past = absurd (omega arith)
no_family (k ∷ kinds) (suc f) past = no_family kinds f (omega arith)

pub family_fails : (kinds : Kinds) (Γ : Typing) (f : ℕ) (args : Spine) (child : ℕ) (path : List ℕ) → kinds f ≡ None → path ≡ [] → FailsTypeFrom kinds Γ (family f args) child (reverse path)
family_fails kinds Γ f args child path e path_is = subst (λ p. FailsTypeFrom kinds Γ (family f args) child (reverse p)) (sym path_is) (fails_family kinds Γ f args child e)

pub family_count_fails : (kinds : Kinds) (Γ : Typing) (f : ℕ) (args : Spine) (child : ℕ) (binders : LfKind) (path : List ℕ) → kinds f ≡ Some binders → args_count args ≢ length binders → path ≡ [] →
    FailsTypeFrom kinds Γ (family f args) child (reverse path)
family_count_fails kinds Γ f args child binders path e differ path_is =
    subst (λ p. FailsTypeFrom kinds Γ (family f args) child (reverse p)) (sym path_is) (fails_family_count kinds Γ f args child binders e differ)

pub family_shaped : (kinds : Kinds) (Γ : Typing) (f : ℕ) (binders : LfKind) → ShapedTyping kinds Γ → kinds f ≡ Some binders → ShapedContext (shapes_of_kinds kinds) (binders_scope Γ 0) binders
family_shaped kinds Γ f binders shaped e = ShapedTyping-family kinds Γ shaped f binders e

-- a walk over the arguments is one over the family
pub family_walk : (kinds : Kinds) (Γ : Typing) (f : ℕ) (args : Spine) (child : ℕ) (binders : LfKind) → kinds f ≡ Some binders → args_count args ≡ length binders → (r : Option (List ℕ)) →
    Walks (TypedSpine Γ stays args (rename_context (next_by 0) binders)) (FailsSpine Γ stays args (rename_context (next_by 0) binders) child) r →
    Walks (Formed kinds Γ (family f args)) (FailsTypeFrom kinds Γ (family f args) child) r
family_walk kinds Γ f args child binders e count r w =
    let here : Walks (TypedSpine Γ stays args binders) (FailsSpine Γ stays args binders child) r =
    subst (λ bs. Walks (TypedSpine Γ stays args bs) (FailsSpine Γ stays args bs child) r) (rename_context-same_head binders) w in
    walks_map (TypedSpine Γ stays args binders) (Formed kinds Γ (family f args)) (FailsSpine Γ stays args binders child) (FailsTypeFrom kinds Γ (family f args) child)
    (λ ps. formed_family binders e ps) (λ path fails. fails_family_argument kinds Γ f args child binders path e count fails) r here
