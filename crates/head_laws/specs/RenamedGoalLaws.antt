-- The laws of goals among which metavariables are renamed: heads have their types, renamed, and what was well formed is.
use Rattle.std.specs.Prelude.{◌≡◌, ◌↔◌, ℕ, List, map, Some}
use Rattle.lf_definitions.specs.Syntax.{LfType, Context}
use Rattle.lf_definitions.specs.Renaming.{rename_type, rename_context}
use Rattle.lf_definitions.specs.Typing.{LfGoal, type_at}
use Rattle.lf_definitions.specs.Signatures.{LfSignature, constant_types, kinds_in, typing_in}
use Rattle.lf_definitions.specs.ShapedGoals.{ShapedSignature}
use Rattle.lf_definitions.specs.GoalLists.{FormedGoals}
use Rattle.lf_definitions.specs.Instantiation.{metavariables, rename_goal, IsInjective}
use Rattle.head_laws.specs.MetavariableLaws.{HasTypesRenamed, KindsStay}
use Rattle.head_laws.specs.Renumbering.{canon}

-- The kinds and the types of a shaped signature mention no metavariable.
abbrev pub SignaturesMentionNoMetavariable : Type 0
SignaturesMentionNoMetavariable =
    (sig : LfSignature) → ShapedSignature sig → (ρ : ℕ → ℕ) →
    KindsStay ρ (kinds_in sig) × ((c : ℕ) (a : LfType) → type_at (constant_types sig) c ≡ Some a → rename_type (metavariables ρ) a ≡ a)

-- Among renamed goals, and in a renamed context, each head has its type, renamed.
abbrev pub RenamedGoalsHaveTypesRenamed : Type 0
RenamedGoalsHaveTypesRenamed =
    (sig : LfSignature) → ShapedSignature sig → (ρ : ℕ → ℕ) → IsInjective ρ → (goals : List LfGoal) (ctx : Context) →
    HasTypesRenamed ρ (typing_in sig goals ctx) (typing_in sig (map (rename_goal ρ) goals) (rename_context (metavariables ρ) ctx))

-- Goals are well formed where they are so under other numbers, or under their places.
abbrev pub RenamedGoalsAreFormed : Type 0
RenamedGoalsAreFormed =
    (sig : LfSignature) → ShapedSignature sig → (goals : List LfGoal) →
    ((ρ : ℕ → ℕ) → IsInjective ρ → FormedGoals sig goals ↔ FormedGoals sig (map (rename_goal ρ) goals))
    × (FormedGoals sig goals → FormedGoals sig (canon goals))
