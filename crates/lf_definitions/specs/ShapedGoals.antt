-- When contexts, signatures and lists of goals are shaped.
use Rattle.std.specs.Prelude.{◌≡◌, ◌≢◌, ℕ, List, [], ◌∷◌, map, All, AllPairs, Option, Some, None}
use Rattle.lf_definitions.specs.Syntax.{bound, constant, metavariable, SimpleType, LfType, atomic, Context, LfKind, shape_of, shapes_of_types}
use Rattle.lf_definitions.specs.Shaping.{Scope, under, ShapedType, shapes_in}
use Rattle.lf_definitions.specs.Typing.{Typing, Kinds, LfGoal, goal_type, shapes_of, shapes_of_kinds}
use Rattle.lf_definitions.specs.Signatures.{LfSignature, family_kinds, constant_types, kinds_in}

-- A context is shaped where each entry is, in the scope of those before it. So is a kind.
pub data ShapedContext : (ℕ → Option SimpleType) → Scope → Context → Type 0 where
  shaped_empty : {kinds : ℕ → Option SimpleType} {Γ : Scope} → ShapedContext kinds Γ []
  shaped_entry : {kinds : ℕ → Option SimpleType} {Γ : Scope} {a : LfType} {rest : Context} →
      ShapedType kinds Γ a → ShapedContext kinds (under (shape_of a) Γ) rest → ShapedContext kinds Γ (a ∷ rest)

-- A goal's shape as a metavariable is that of its context as binders over its target.
abbrev pub shapes_of_goals : List LfGoal → List (ℕ × SimpleType)
shapes_of_goals goals = map (λ g. (g.id, shape_of (goal_type g))) goals

-- the shapes of the kinds of a signature, by the numbers of the families
abbrev pub kind_shapes_in : LfSignature → ℕ → Option SimpleType
kind_shapes_in sig = shapes_of_kinds (kinds_in sig)

-- the shapes of constants, of goals as metavariables, and of the variables of a context
abbrev pub scope_in : LfSignature → List LfGoal → Context → Scope
scope_in sig goals ctx = shapes_in (shapes_of_types (constant_types sig)) (shapes_of_goals goals) (shapes_of_types ctx)

abbrev pub ShapedTypeIn : LfSignature → List LfGoal → Context → LfType → Type 0
ShapedTypeIn sig goals ctx = ShapedType (kind_shapes_in sig) (scope_in sig goals ctx)

-- after a context
abbrev pub ShapedContextIn : LfSignature → List LfGoal → Context → Context → Type 0
ShapedContextIn sig goals ctx = ShapedContext (kind_shapes_in sig) (scope_in sig goals ctx)

-- A signature is shaped where its kinds and its types are, with no variables and no metavariables.
abbrev pub ShapedSignature : LfSignature → Type 0
ShapedSignature sig = All (ShapedContextIn sig [] []) (family_kinds sig) × All (ShapedTypeIn sig [] []) (constant_types sig)

-- Among goals, a goal is shaped where its context is, and its target in that context.
abbrev pub ShapedGoal : LfSignature → List LfGoal → LfGoal → Type 0
ShapedGoal sig goals g = ShapedContextIn sig goals [] g.context × ShapedTypeIn sig goals g.context (atomic g.target)

-- A list of goals is shaped where their numbers differ and each is shaped among them.
abbrev pub ShapedGoals : LfSignature → List LfGoal → Type 0
ShapedGoals sig goals = AllPairs (λ g h. g.id ≢ h.id) goals × All (ShapedGoal sig goals) goals

-- what is known of the heads but for variables
abbrev pub without_variables : Scope → Scope
without_variables Γ (bound n) = None
without_variables Γ (constant c) = Γ (constant c)
without_variables Γ (metavariable g) = Γ (metavariable g)

-- The types of variables are shaped, and with no variables so are the types of the other heads and the kinds.
pub record ShapedTyping (kinds : Kinds) (Γ : Typing) : Type 0 where
  pub of_variables : (n : ℕ) (a : LfType) → Γ (bound n) ≡ Some a → ShapedType (shapes_of_kinds kinds) (shapes_of Γ) a
  pub of_constants : (c : ℕ) (a : LfType) → Γ (constant c) ≡ Some a → ShapedType (shapes_of_kinds kinds) (without_variables (shapes_of Γ)) a
  pub of_metavariables : (g : ℕ) (a : LfType) → Γ (metavariable g) ≡ Some a → ShapedType (shapes_of_kinds kinds) (without_variables (shapes_of Γ)) a
  pub of_families : (f : ℕ) (kind : LfKind) → kinds f ≡ Some kind → ShapedContext (shapes_of_kinds kinds) (without_variables (shapes_of Γ)) kind
