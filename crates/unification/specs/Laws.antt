-- The laws of reading variables, and that each problem has one end.
use Rattle.std.specs.Prelude.{◌≡◌, ◌↔◌, ℕ, List, Some}
use Rattle.lf_definitions.specs.Syntax.{bound, LfTerm, SimpleType}
use Rattle.lf_definitions.specs.Shaping.{Scope, Shaped}
use Rattle.lf_definitions.specs.Expansion.{eta}
use Rattle.lf_definitions.specs.Occurrence.{OccursIn, OccursRigidly}
use Rattle.std.specs.Prelude.{IsTrue, Contains, Option}
use Rattle.lf_definitions.specs.Instantiation.{LfAssigned}
use Rattle.unification.specs.Patterns.{reads, is_over, escapes_from}
use Rattle.unification.specs.Equations.{LfEquation, Ending, solved, Unifying}
use Rattle.unification.specs.Transitions.{Frozen, Step, Ends, Unifies}
use Rattle.unification.specs.Solutions.{ShapedEquations, IsResolvedAnswer}

-- A term reads as a variable where it is the eta-long form of one, and at a shape it is that of the shape.
abbrev pub ReadingIsExpansion : Type 0
ReadingIsExpansion =
    ((t : LfTerm) (n : ℕ) → (reads t ≡ Some n) ↔ ((s : SimpleType) × (t ≡ eta (bound n) s)))
    × ((Γ : Scope) (t : LfTerm) (s : SimpleType) (n : ℕ) → Shaped Γ t s → reads t ≡ Some n → (t ≡ eta (bound n) s) × (Γ (bound n) ≡ Some s))

-- The tests of a term's variables say what they are named for.
abbrev pub VariablesAreTested : Type 0
VariablesAreTested =
    (ns : List ℕ) (t : LfTerm) →
    (IsTrue (is_over ns t) ↔ ((n : ℕ) → OccursIn (bound n) t → Contains ns n))
    × (IsTrue (escapes_from ns t) ↔ ((n : ℕ) × OccursRigidly (bound n) t × (Contains ns n → ⊥)))

-- At most one transition fits a state, and none where there is no equation.
abbrev pub TransitionsAreUnique : Type 0
TransitionsAreUnique =
    (frozen : Frozen) (state other another : Unifying) (ending : Ending) →
    (Step frozen state other → Step frozen state another → other ≡ another)
    × (Ends frozen state ending → (last : Ending) → Ends frozen state last → last ≡ ending)

-- Every shaped problem has exactly one end.
abbrev pub ShapedProblemsHaveOneEnd : Type 0
ShapedProblemsHaveOneEnd =
    (kinds : ℕ → Option SimpleType) (Γ : Scope) (frozen : Frozen) (equations : List LfEquation) → ShapedEquations kinds Γ equations →
    (ending : Ending) × Unifies frozen equations ending × ((last : Ending) → Unifies frozen equations last → last ≡ ending)

-- An answer is resolved and shaped, and speaks of the equations' metavariables alone.
abbrev pub AnswersAreResolved : Type 0
AnswersAreResolved =
    (kinds : ℕ → Option SimpleType) (Γ : Scope) (frozen : Frozen) (equations : List LfEquation) (entries : List LfAssigned) → ShapedEquations kinds Γ equations →
    Unifies frozen equations (solved entries) → IsResolvedAnswer Γ frozen equations entries
