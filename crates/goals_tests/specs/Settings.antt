-- What is shaped in a setting, and what may be put there.
use Rattle.std.specs.Prelude.{◌≡◌, ℕ, List, Option, Some}
use Rattle.lf_definitions.specs.Syntax.{metavariable, SimpleType, base, arrows, LfAtom, atomic}
use Rattle.lf_definitions.specs.Shaping.{Scope, ShapedType, shape_at, shapes_in}
use Rattle.lf_definitions.specs.Replacements.{Goes}
use Rattle.lf_definitions.specs.Instantiation.{instantiating}
use Rattle.head_laws.specs.AssignmentLaws.{AssignsClosedTerms}
use Rattle.meta_goals.specs.Bindings.{LfBinding, assigning, binding_for}
use Rattle.meta_unify.specs.declared.unified.Unified.{Unified}
use Rattle.meta_unify.specs.declared.unified.Unified.TheVariants.{Solved, Clash, Occurs, Escapes, Prune, NotPattern}
use Rattle.goals_tests.specs.declared.setting.Setting.{Setting}

-- the shapes of heads, beside variables of these shapes
abbrev pub scope_of : Setting → List SimpleType → Scope
scope_of setting variables = shapes_in setting.constants setting.metas variables

-- A family's arguments are those of the constant of its number.
abbrev pub kinds_of : Setting → ℕ → Option SimpleType
kinds_of setting f = shape_at setting.constants f

abbrev pub ShapedPair : Setting → List SimpleType → LfAtom × LfAtom → Type 0
ShapedPair setting variables pair =
    ShapedType (kinds_of setting) (scope_of setting variables) (atomic pair.0) × ShapedType (kinds_of setting) (scope_of setting variables) (atomic pair.1)

-- Bindings may be put for metavariables in what is shaped in a scope.
pub record MayBePut (Γ : Scope) (bindings : List LfBinding) : Type 0 where
  pub size : ℕ
  pub goes : Goes size Γ Γ (instantiating (assigning bindings))
  pub closed : AssignsClosedTerms (assigning bindings)
  pub contexts : (g : ℕ) (s : SimpleType) (b : LfBinding) → Γ (metavariable g) ≡ Some s → binding_for bindings g ≡ Some b → s ≡ arrows b.shapes base

-- So may those of an answer, where there are any.
abbrev pub AnswerMayBePut : Scope → Unified → Type 0
AnswerMayBePut Γ (Solved assign) = MayBePut Γ assign
AnswerMayBePut Γ (Clash path) = Unit
AnswerMayBePut Γ (Occurs g) = Unit
AnswerMayBePut Γ (Escapes path) = Unit
AnswerMayBePut Γ (Prune path) = Unit
AnswerMayBePut Γ (NotPattern path) = Unit
