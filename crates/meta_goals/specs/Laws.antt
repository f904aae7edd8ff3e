-- The laws of bindings: when the assignment that they make up may be applied to what is shaped among goals.
use Rattle.std.specs.Prelude.{◌≡◌, ℕ, List, [], length, Some, All}
use Rattle.lf_definitions.specs.Syntax.{metavariable, SimpleType, base, arrows, shapes_of_types, Context}
use Rattle.lf_definitions.specs.Typing.{LfGoal}
use Rattle.lf_definitions.specs.Signatures.{LfSignature}
use Rattle.lf_definitions.specs.ShapedGoals.{scope_in}
use Rattle.lf_definitions.specs.Replacements.{Goes}
use Rattle.lf_definitions.specs.Instantiation.{Assignment, instantiating}
use Rattle.lf_terms.specs.Extents.{StaysWithin, InTerm}
use Rattle.head_laws.specs.AssignmentLaws.{AssignsClosedTerms}
use Rattle.meta_goals.specs.Bindings.{LfBinding, assigning, binding_for}

-- Each binding of a goal's number has the shapes of the goal's context.
abbrev pub HaveShapesOf : List LfGoal → List LfBinding → Type 0
HaveShapesOf goals bindings = All (λ b. All (λ g. g.id ≡ b.number → b.shapes ≡ shapes_of_types g.context) goals) bindings

-- Then a metavariable that is one of the goals, and has a binding, has the binding's shapes, whatever variables there are besides.
abbrev pub BoundGoalsHaveTheirShapes : Type 0
BoundGoalsHaveTheirShapes =
    (sig : LfSignature) (goals : List LfGoal) (bindings : List LfBinding) → HaveShapesOf goals bindings → (ctx : Context) (g : ℕ) (s : SimpleType) (b : LfBinding) →
    scope_in sig goals ctx (metavariable g) ≡ Some s → binding_for bindings g ≡ Some b → s ≡ arrows b.shapes base

-- Where no body speaks of a variable but its own, closed terms are assigned.
abbrev pub BoundBodiesAreClosed : Type 0
BoundBodiesAreClosed = (bindings : List LfBinding) → All (λ b. StaysWithin (length b.shapes) (InTerm b.bound_body)) bindings → AssignsClosedTerms (assigning bindings)

-- Closed terms may be put under further variables.
abbrev pub AssignmentsGoUnderVariables : Type 0
AssignmentsGoUnderVariables =
    (sig : LfSignature) (goals others : List LfGoal) (σ : Assignment) (p : ℕ) → AssignsClosedTerms σ → Goes p (scope_in sig goals []) (scope_in sig others []) (instantiating σ) →
    (ctx : Context) → Goes p (scope_in sig goals ctx) (scope_in sig others ctx) (instantiating σ)
