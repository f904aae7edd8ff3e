-- The end of the unification of atoms, as a function that is total on all data.
use Rattle.std.specs.Prelude.{ℕ, List, [], Option, Some, None}
use Rattle.lf_definitions.specs.Syntax.{LfAtom, Context, SimpleType}
use Rattle.lf_definitions.specs.Shaping.{Scope}
use Rattle.lf_definitions.specs.ShapedGoals.{kind_shapes_in, scope_in}
use Rattle.lf_definitions.specs.Typing.{LfGoal}
use Rattle.lf_definitions.specs.Signatures.{LfSignature}
use Rattle.unification.specs.Equations.{LfEquation, numbered_from, clash, Ending, refused}
use Rattle.unification.specs.Transitions.{Frozen}
use Rattle.unification.specs.Solutions.{ShapedEquations}
use Rattle.unification.proofs.Laws.{shaped_problems_have_one_end}
use Rattle.lf_functions.specs.ShapeTests.{equations_or_none}

-- The one end of shaped equations; equations that aren't shaped are refused.
abbrev pub end_or_clash : (kinds : ℕ → Option SimpleType) (Γ : Scope) → Frozen → (equations : List LfEquation) → Option (ShapedEquations kinds Γ equations) → Ending
end_or_clash kinds Γ frozen equations None = refused (clash [])
end_or_clash kinds Γ frozen equations (Some shaped) = (shaped_problems_have_one_end kinds Γ frozen equations shaped).0

-- What the unification of equations between atoms ends with, over a signature, among goals and in a context.
unfoldable pub unifier_of : LfSignature → List LfGoal → Context → Frozen → List (LfAtom × LfAtom) → Ending
unifier_of sig goals ctx frozen equations =
    end_or_clash (kind_shapes_in sig) (scope_in sig goals ctx) frozen (numbered_from 0 equations) (equations_or_none (kind_shapes_in sig) (scope_in sig goals ctx) 0 equations)
