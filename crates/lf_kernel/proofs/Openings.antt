-- What is known where a check begins.
use Rattle.std.proofs.Common.{◌≡◌, ℕ, ◌<◌, List, [], Option, Some, None, sym, subst, arith}
use Rattle.lf_definitions.specs.Syntax.{LfType, Context, LfKind}
use Rattle.lf_definitions.specs.Shaping.{ShapedType}
use Rattle.lf_definitions.specs.Typing.{Typing, Kinds, FormedContext, with_context, LfGoal, typed_globals, shapes_of}
use Rattle.lf_definitions.specs.Failures.{FailsContextFrom}
use Rattle.lf_definitions.specs.Signatures.{LfSignature, constant_types, kinds_in, typing_in, FormedSignature}
use Rattle.lf_definitions.specs.ShapedGoals.{ShapedTyping, ShapedTypeIn, ShapedContextIn, ShapedGoals, shaped_empty, kind_shapes_in}
use Rattle.lf_definitions.proofs.ShapedGoals.{ShapedTyping-typing_in, ShapedSignature-FormedSignature, shapes_of-typing_in}
use Rattle.lf_terms.specs.declared.ty.Ty.{Ty}
use Rattle.lf_terms.specs.Types.{types_of}
use Rattle.lf_kernel.specs.Checks.{Walks, ChecksKind, answer}

pub known_at : (sig : LfSignature) (goals : List LfGoal) (ctx : Context) (types : List Ty) → types_of types ≡ ctx → FormedSignature sig → ShapedGoals sig goals → ShapedContextIn sig goals [] ctx →
    ShapedTyping (kinds_in sig) (with_context (types_of types) (typed_globals (constant_types sig) goals))
known_at sig goals ctx types are formed shaped_goals shaped_ctx =
    subst (λ bs. ShapedTyping (kinds_in sig) (with_context bs (typed_globals (constant_types sig) goals))) (sym are)
    (ShapedTyping-typing_in sig goals ctx (ShapedSignature-FormedSignature sig formed) shaped_goals shaped_ctx)

pub expected_at : (sig : LfSignature) (goals : List LfGoal) (ctx : Context) (types : List Ty) (a : LfType) → types_of types ≡ ctx → ShapedTypeIn sig goals ctx a →
    ShapedType (kind_shapes_in sig) (shapes_of (with_context (types_of types) (typed_globals (constant_types sig) goals))) a
expected_at sig goals ctx types a are p =
    subst (λ bs. ShapedType (kind_shapes_in sig) (shapes_of (with_context bs (typed_globals (constant_types sig) goals))) a) (sym are)
    (subst (λ Δ. ShapedType (kind_shapes_in sig) Δ a) (sym (shapes_of-typing_in sig goals ctx)) p)

no_goals : (sig : LfSignature) → ShapedGoals sig []
no_goals sig = ((λ i j d less small. absurd (none j small)), (λ k d small. absurd (none k small)))
  where
    none : (j : ℕ) → j < 0 → ⊥
    none j small = omega arith

-- with no variables and no goals
pub known_closed : (sig : LfSignature) (goals : List LfGoal) → goals ≡ [] → FormedSignature sig → ShapedTyping (kinds_in sig) (typed_globals (constant_types sig) goals)
known_closed sig goals are formed =
    subst (λ gs. ShapedTyping (kinds_in sig) (typed_globals (constant_types sig) gs)) (sym are)
    (ShapedTyping-typing_in sig [] [] (ShapedSignature-FormedSignature sig formed) (no_goals sig) shaped_empty)

kind_answer : (kinds : Kinds) (Γ : Typing) (kind : LfKind) (found : Option (List ℕ)) → Walks (FormedContext kinds Γ kind) (FailsContextFrom kinds Γ kind 0) found → ChecksKind kinds Γ kind (answer found)
kind_answer kinds Γ kind None w = w
kind_answer kinds Γ kind (Some path) w = w

pub kind_checked : (sig : LfSignature) (goals : List LfGoal) (kind : LfKind) (types : List Ty) (found : Option (List ℕ)) → goals ≡ [] → types_of types ≡ kind →
    Walks (FormedContext (kinds_in sig) (typed_globals (constant_types sig) goals) (types_of types)) (FailsContextFrom (kinds_in sig) (typed_globals (constant_types sig) goals) (types_of types) 0) found →
    ChecksKind (kinds_in sig) (typing_in sig [] []) kind (answer found)
kind_checked sig goals kind types found are is w =
    let here = subst (λ gs. Walks (FormedContext (kinds_in sig) (typed_globals (constant_types sig) gs) (types_of types)) (FailsContextFrom (kinds_in sig) (typed_globals (constant_types sig) gs) (types_of types) 0) found) are w in
    kind_answer (kinds_in sig) (typing_in sig [] []) kind found
    (subst (λ bs. Walks (FormedContext (kinds_in sig) (typing_in sig [] []) bs) (FailsContextFrom (kinds_in sig) (typing_in sig [] []) bs 0) found) is here)

-- the empty context
pub empty_context : (sig : LfSignature) (goals : List LfGoal) (ctx : Context) → ctx ≡ [] → ShapedContextIn sig goals [] ctx
empty_context sig goals ctx is = subst (ShapedContextIn sig goals []) (sym is) shaped_empty

pub no_goals_shaped : (sig : LfSignature) (goals : List LfGoal) → goals ≡ [] → ShapedGoals sig goals
no_goals_shaped sig goals is = subst (ShapedGoals sig) (sym is) (no_goals sig)
