-- What is known under the binders of a type.
use Rattle.std.proofs.Common.{◌≡◌, List, length, sym, ap, ◌∙◌, subst}
use Rattle.lf_definitions.specs.Syntax.{LfType, Context, pis}
use Rattle.lf_definitions.specs.Shaping.{ShapedType}
use Rattle.lf_definitions.specs.Typing.{Typing, Kinds, with_context, shapes_of, shapes_of_kinds}
use Rattle.lf_definitions.specs.ShapedGoals.{ShapedTyping}
use Rattle.lf_definitions.proofs.ShapedGoals.{ShapedContext-pis, ShapedTyping-with_context}
use Rattle.lf_terms.specs.declared.ty.Ty.{Ty}
use Rattle.lf_terms.specs.Types.{types_of}
use Rattle.lf_terms.proofs.TypeLists.{length-types_of}

pub under_binders : (kinds : Kinds) (Γ : Typing) (types : List Ty) (binders : Context) (end : LfType) → types_of types ≡ binders → ShapedTyping kinds Γ → ShapedType (shapes_of_kinds kinds) (shapes_of Γ) (pis binders end) →
    ShapedTyping kinds (with_context (types_of types) Γ)
under_binders kinds Γ types binders end are shaped p =
    subst (λ bs. ShapedTyping kinds (with_context bs Γ)) (sym are) (ShapedTyping-with_context binders kinds Γ shaped (ShapedContext-pis binders end p))

pub count_of : (types : List Ty) (binders : Context) → types_of types ≡ binders → length types ≡ length binders
count_of types binders are = sym (length-types_of types) ∙ ap length are
