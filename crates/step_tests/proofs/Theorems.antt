-- Well-formed types are shaped, and what is known over one signature is known over an equal one.
use Rattle.std.proofs.Common.{◌≡◌, [], sym, subst}
use Rattle.lf_definitions.specs.Syntax.{LfType}
use Rattle.lf_definitions.specs.Shaping.{ShapedType}
use Rattle.lf_definitions.specs.ShapedGoals.{kind_shapes_in, ShapedTypeIn, ShapedGoals}
use Rattle.lf_definitions.specs.Signatures.{LfSignature, kinds_in, typing_in}
use Rattle.lf_definitions.specs.Typing.{Formed}
use Rattle.lf_definitions.specs.GoalLists.{LfGoals, all_goals}
use Rattle.lf_definitions.proofs.Typing.{ShapedType-Formed}
use Rattle.lf_definitions.proofs.ShapedGoals.{shapes_of-typing_in}

pub type_is_shaped : (sig other : LfSignature) (a : LfType) → other ≡ sig → Formed (kinds_in sig) (typing_in sig [] []) a → ShapedTypeIn other [] [] a
type_is_shaped sig other a is formed =
    subst (λ s. ShapedTypeIn s [] [] a) (sym is) (subst (λ Γ. ShapedType (kind_shapes_in sig) Γ a) (shapes_of-typing_in sig [] []) (ShapedType-Formed formed))

pub goals_are_shaped : (sig other : LfSignature) (list : LfGoals) → other ≡ sig → ShapedGoals sig (all_goals list) → ShapedGoals other (all_goals list)
goals_are_shaped sig other list is shaped = subst (λ s. ShapedGoals s (all_goals list)) (sym is) shaped
