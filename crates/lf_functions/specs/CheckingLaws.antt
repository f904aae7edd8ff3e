-- The laws of the tests of syntax and of types: they say what they are named for, and go along with renamings of metavariables.
use Rattle.std.specs.Prelude.{◌≡◌, ◌↔◌, ℕ, List, [], map, IsTrue, Some}
use Rattle.lf_definitions.specs.Syntax.{metavariable, LfTerm, Spine, LfType, Context}
use Rattle.lf_definitions.specs.Renaming.{rename, rename_type, rename_context}
use Rattle.lf_definitions.specs.ShapedGoals.{ShapedTypeIn, ShapedContextIn, ShapedSignature, ShapedGoals}
use Rattle.lf_definitions.specs.Occurrence.{OccursIn}
use Rattle.lf_definitions.specs.Typing.{Typed, LfGoal, type_of_metavariable}
use Rattle.lf_definitions.specs.Signatures.{LfSignature, typing_in}
use Rattle.lf_definitions.specs.Instantiation.{metavariables, rename_goal, IsInjective}
use Rattle.head_laws.specs.LookupLaws.{GoalsAgree}
use Rattle.lf_functions.specs.Checking.{equal_terms, equal_spines, equal_types, has_type}

-- Equality of syntax is decided.
abbrev pub EqualityIsDecided : Type 0
EqualityIsDecided =
    ((t u : LfTerm) → IsTrue (equal_terms t u) ↔ (t ≡ u))
    × ((ts us : Spine) → IsTrue (equal_spines ts us) ↔ (ts ≡ us))
    × ((a b : LfType) → IsTrue (equal_types a b) ↔ (a ≡ b))

-- Over a shaped signature, among shaped goals and in a shaped context, `has_type` is true of a term and a shaped type exactly where the term has the type.
abbrev pub HasTypeIsTyping : Type 0
HasTypeIsTyping =
    (sig : LfSignature) (goals : List LfGoal) (ctx : Context) → ShapedSignature sig → ShapedGoals sig goals → ShapedContextIn sig goals [] ctx →
    (t : LfTerm) (a : LfType) → ShapedTypeIn sig goals ctx a → IsTrue (has_type sig goals ctx t a) ↔ Typed (typing_in sig goals ctx) t a

-- It is the same where metavariables are renamed.
abbrev pub HasTypeIsRenamed : Type 0
HasTypeIsRenamed =
    (sig : LfSignature) → ShapedSignature sig → (ρ : ℕ → ℕ) → IsInjective ρ → (goals : List LfGoal) (ctx : Context) (t : LfTerm) (a : LfType) →
    has_type sig (map (rename_goal ρ) goals) (rename_context (metavariables ρ) ctx) (rename (metavariables ρ) t) (rename_type (metavariables ρ) a) ≡ has_type sig goals ctx t a

-- On all data, it looks at the goals that the term mentions alone.
abbrev pub HasTypeLooksAtWhatOccurs : Type 0
HasTypeLooksAtWhatOccurs =
    (sig : LfSignature) (goals others : List LfGoal) (ctx : Context) (t : LfTerm) → GoalsAgree goals others (λ g. OccursIn (metavariable g) t) →
    (a : LfType) → has_type sig others ctx t a ≡ has_type sig goals ctx t a

-- And it is true only of terms that mention no metavariable but these goals.
abbrev pub HasTypeKnowsWhatOccurs : Type 0
HasTypeKnowsWhatOccurs =
    (sig : LfSignature) (goals : List LfGoal) (ctx : Context) (t : LfTerm) (a : LfType) → IsTrue (has_type sig goals ctx t a) →
    (g : ℕ) → OccursIn (metavariable g) t → (b : LfType) × (type_of_metavariable goals g ≡ Some b)
