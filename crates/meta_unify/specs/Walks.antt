-- What a walk over equations does to bindings, told by the transitions of the problem for which these stand.
use Rattle.std.specs.Prelude.{◌≡◌, ℕ, List, ◌++◌, reverse, Option, Some, None}
use Rattle.lf_definitions.specs.Syntax.{metavariable, LfAtom, SimpleType, base, arrows}
use Rattle.lf_definitions.specs.Shaping.{Scope}
use Rattle.lf_definitions.specs.Instantiation.{LfAssigned, assignment_of}
use Rattle.unification.specs.Equations.{LfEquation, numbered_from, Reason, Ending, refused, Unifying, InstantiatedEquations}
use Rattle.unification.specs.Transitions.{Frozen, leaving, Ends}
use Rattle.unification.specs.Solutions.{ShapedEquations}
use Rattle.meta_goals.specs.Bindings.{LfBinding, binding_for}
use Rattle.meta_unify.specs.Standing.{Stands}
use Rattle.meta_unify.specs.Endings.{reason_at}
use Rattle.meta_unify.specs.declared.stop.Stop.{Stop}
use Rattle.meta_unify.specs.declared.unified.Unified.{Unified}
use Rattle.meta_unify.specs.declared.unified.Unified.TheVariants.{Solved, Clash, Occurs, Escapes, Prune, NotPattern}

-- Whatever the second state ends with, the first ends with.
abbrev pub LeadsTo : Frozen → Unifying → Unifying → Type 0
LeadsTo frozen before after = (ending : Ending) → Ends frozen after ending → Ends frozen before ending

-- where a walk begins: bindings stand for entries, and equations, instantiated by these, are results
pub record WalkBegins (kinds : ℕ → Option SimpleType) (Γ : Scope) (bindings : List LfBinding) (equations : List LfEquation) (entries : List LfAssigned) (results : List LfEquation) : Type 0 where
  pub stands : Stands Γ bindings entries
  pub shaped : ShapedEquations kinds Γ equations
  pub instance : InstantiatedEquations (assignment_of entries) equations results

-- Equations are solved by further bindings: what is left ends as the whole does.
abbrev pub WalkPasses : Frozen → List LfBinding → List LfBinding → List LfEquation → Type 0
WalkPasses frozen old new equations =
    (kinds : ℕ → Option SimpleType) (Γ : Scope) (entries : List LfAssigned) (rest results : List LfEquation) → WalkBegins kinds Γ old (equations ++ rest) entries results →
    (others : List LfAssigned) × (left : List LfEquation) × WalkBegins kinds Γ new rest others left × LeadsTo frozen (leaving results entries) (leaving left others)

-- One of the equations is refused.
abbrev pub WalkStops : Frozen → List LfBinding → List LfEquation → Reason → Type 0
WalkStops frozen old equations reason =
    (kinds : ℕ → Option SimpleType) (Γ : Scope) (entries : List LfAssigned) (rest results : List LfEquation) → WalkBegins kinds Γ old (equations ++ rest) entries results →
    Ends frozen (leaving results entries) (refused reason)

-- A walk over the equations at a path passes, or it stops at a path below.
abbrev pub WalkedAt : Frozen → List LfBinding → List LfBinding → List ℕ → List LfEquation → Option Stop → Type 0
WalkedAt frozen old new path equations None = WalkPasses frozen old new equations
WalkedAt frozen old new path equations (Some stop) = WalkStops frozen old equations (reason_at stop.cause (path ++ reverse stop.steps))

-- whatever the path is
abbrev pub Walked : Frozen → List LfBinding → List LfBinding → (List ℕ → List LfEquation) → Option Stop → Type 0
Walked frozen old new equations r = (path : List ℕ) → WalkedAt frozen old new path (equations path) r

-- A problem is shaped in some scope.
abbrev pub IsShapedProblem : List (LfAtom × LfAtom) → Type 0
IsShapedProblem pairs = (kinds : ℕ → Option SimpleType) × (Γ : Scope) × ShapedEquations kinds Γ (numbered_from 0 pairs)

-- Each binding has the shapes of its goal's context, in any scope in which the problem is shaped.
abbrev pub KnowsContexts : List (LfAtom × LfAtom) → List LfBinding → Type 0
KnowsContexts pairs bindings =
    (kinds : ℕ → Option SimpleType) (Γ : Scope) → ShapedEquations kinds Γ (numbered_from 0 pairs) → (g : ℕ) (s : SimpleType) (b : LfBinding) → Γ (metavariable g) ≡ Some s → binding_for bindings g ≡ Some b →
    s ≡ arrows b.shapes base

-- So where equations are unified.
abbrev pub AnswerKnowsContexts : List (LfAtom × LfAtom) → Unified → Type 0
AnswerKnowsContexts pairs (Solved assign) = KnowsContexts pairs assign
AnswerKnowsContexts pairs (Clash path) = Unit
AnswerKnowsContexts pairs (Occurs g) = Unit
AnswerKnowsContexts pairs (Escapes path) = Unit
AnswerKnowsContexts pairs (Prune path) = Unit
AnswerKnowsContexts pairs (NotPattern path) = Unit
