-- The laws of unifiers: an answer solves, it is most general, and some reasons say that nothing solves.
use Rattle.std.specs.Prelude.{◌↔◌, ℕ, List, Option}
use Rattle.lf_definitions.specs.Syntax.{LfTerm, Spine, SimpleType}
use Rattle.lf_definitions.specs.Shaping.{Scope, Shaped, ShapedSpine}
use Rattle.lf_definitions.specs.Instantiation.{Assignment, Instantiated, InstantiatedSpine, LfAssigned, assignment_of}
use Rattle.unification.specs.Equations.{LfEquation, Reason, solved, refused}
use Rattle.unification.specs.Transitions.{Frozen, Unifies}
use Rattle.unification.specs.Solutions.{ShapedEquations, SolvesAll, MaySolve, IsInstanceOf, SaysNone}

-- An assignment solves equations exactly where it is an instance of their answer.
abbrev pub SolutionsAreInstances : Type 0
SolutionsAreInstances =
    (kinds : ℕ → Option SimpleType) (p : ℕ) (Γ Δ : Scope) (frozen : Frozen) (equations : List LfEquation) (entries : List LfAssigned) (θ : Assignment) →
    ShapedEquations kinds Γ equations → Unifies frozen equations (solved entries) → MaySolve p Γ Δ frozen θ →
    SolvesAll θ equations ↔ IsInstanceOf Γ (assignment_of entries) θ

-- The answer itself is such an assignment, and solves each of the equations.
abbrev pub AnswersSolve : Type 0
AnswersSolve =
    (kinds : ℕ → Option SimpleType) (Γ : Scope) (frozen : Frozen) (equations : List LfEquation) (entries : List LfAssigned) →
    ShapedEquations kinds Γ equations → Unifies frozen equations (solved entries) →
    ((p : ℕ) × MaySolve p Γ Γ frozen (assignment_of entries)) × SolvesAll (assignment_of entries) equations

-- An instance of an answer makes of a term what it makes of what the answer makes of it.
abbrev pub InstancesFollow : Type 0
InstancesFollow =
    (kinds : ℕ → Option SimpleType) (p : ℕ) (Γ Δ : Scope) (frozen : Frozen) (equations : List LfEquation) (entries : List LfAssigned) (θ : Assignment) →
    ShapedEquations kinds Γ equations → Unifies frozen equations (solved entries) → MaySolve p Γ Δ frozen θ → IsInstanceOf Γ (assignment_of entries) θ →
    ((t r x : LfTerm) (s : SimpleType) → Shaped Γ t s → Instantiated (assignment_of entries) t r → Instantiated θ r x ↔ Instantiated θ t x)
    × ((ts rs xs : Spine) (s : SimpleType) → ShapedSpine Γ ts s → InstantiatedSpine (assignment_of entries) ts rs → InstantiatedSpine θ rs xs ↔ InstantiatedSpine θ ts xs)

-- Where unification ends with a clash or with an occurrence, no assignment solves the equations.
abbrev pub RefusedEquationsHaveNoSolution : Type 0
RefusedEquationsHaveNoSolution =
    (kinds : ℕ → Option SimpleType) (p : ℕ) (Γ Δ : Scope) (frozen : Frozen) (equations : List LfEquation) (reason : Reason) (θ : Assignment) →
    ShapedEquations kinds Γ equations → Unifies frozen equations (refused reason) → SaysNone reason → MaySolve p Γ Δ frozen θ → SolvesAll θ equations → ⊥
