-- What it takes to put an assignment's terms for metavariables, and that shapes stay.
use Rattle.std.specs.Prelude.{◌≡◌, ℕ, List, Option, Some, All}
use Rattle.lf_definitions.specs.Syntax.{metavariable, LfTerm, Spine, LfType, Context, SimpleType, base, arrows}
use Rattle.lf_definitions.specs.Shaping.{Scope, Shaped, ShapedSpine, ShapedType}
use Rattle.lf_definitions.specs.ShapedGoals.{ShapedContext}
use Rattle.lf_definitions.specs.Replacements.{Goes}
use Rattle.lf_definitions.specs.Typing.{LfGoal}
use Rattle.lf_definitions.specs.Instantiation.{instantiating}
use Rattle.head_laws.specs.AssignmentLaws.{AssignsClosedTerms}
use Rattle.head_laws.specs.ReplacementLaws.{ShapedGoalOver}
use Rattle.meta_goals.specs.Bindings.{LfBinding, assigning, binding_for}

-- The assignment goes from a scope to a target, what it puts speaks of no variable, each binding has the shapes of its goal's context, and something is shaped in the scope.
pub record Instantiates (bindings : List LfBinding) (IsShaped : Scope → Type 0) : Type 0 where
  pub size : ℕ
  pub outer : Scope
  pub target : Scope
  pub goes : Goes size outer target (instantiating (assigning bindings))
  pub closed : AssignsClosedTerms (assigning bindings)
  pub contexts : (g : ℕ) (s : SimpleType) (b : LfBinding) → outer (metavariable g) ≡ Some s → binding_for bindings g ≡ Some b → s ≡ arrows b.shapes base
  pub shaped : IsShaped outer

-- at some shape
abbrev pub TermIsShaped : LfTerm → Scope → Type 0
TermIsShaped t Γ = (s : SimpleType) × Shaped Γ t s

abbrev pub ArgsAreShaped : Spine → Scope → Type 0
ArgsAreShaped ts Γ = (s : SimpleType) × ShapedSpine Γ ts s

-- by some shapes of kinds
abbrev pub TypeIsShaped : LfType → Scope → Type 0
TypeIsShaped a Γ = (kinds : ℕ → Option SimpleType) × ShapedType kinds Γ a

abbrev pub ContextIsShaped : Context → Scope → Type 0
ContextIsShaped ctx Γ = (kinds : ℕ → Option SimpleType) × ShapedContext kinds Γ ctx

abbrev pub GoalIsShaped : LfGoal → Scope → Type 0
GoalIsShaped g Γ = (kinds : ℕ → Option SimpleType) × ShapedGoalOver kinds Γ g

abbrev pub GoalsAreShaped : List LfGoal → Scope → Type 0
GoalsAreShaped goals Γ = (kinds : ℕ → Option SimpleType) × All (ShapedGoalOver kinds Γ) goals

-- Whatever scopes the assignment goes between, what is shaped in the first has a result that is shaped alike in the second.
abbrev pub TermKeepsShape : List LfBinding → LfTerm → LfTerm → Type 0
TermKeepsShape bindings t r = (p : Instantiates bindings (TermIsShaped t)) → Shaped p.target r p.shaped.0

abbrev pub ArgsKeepShape : List LfBinding → Spine → Spine → Type 0
ArgsKeepShape bindings ts rs = (p : Instantiates bindings (ArgsAreShaped ts)) → ShapedSpine p.target rs p.shaped.0

abbrev pub TypeKeepsShape : List LfBinding → LfType → LfType → Type 0
TypeKeepsShape bindings a b = (p : Instantiates bindings (TypeIsShaped a)) → ShapedType p.shaped.0 p.target b

abbrev pub ContextKeepsShape : List LfBinding → Context → Context → Type 0
ContextKeepsShape bindings ctx results = (p : Instantiates bindings (ContextIsShaped ctx)) → ShapedContext p.shaped.0 p.target results

abbrev pub GoalKeepsShape : List LfBinding → LfGoal → LfGoal → Type 0
GoalKeepsShape bindings g h = (p : Instantiates bindings (GoalIsShaped g)) → ShapedGoalOver p.shaped.0 p.target h

abbrev pub GoalsKeepShape : List LfBinding → List LfGoal → List LfGoal → Type 0
GoalsKeepShape bindings goals left = (p : Instantiates bindings (GoalsAreShaped goals)) → All (ShapedGoalOver p.shaped.0 p.target) left
