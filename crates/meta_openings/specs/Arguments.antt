-- The arguments of a type, one after another.
use Rattle.std.specs.Prelude.{◌≡◌, ℕ, ◌+◌, List, [], ◌∷◌, ◌++◌, length, Option, Some, None}
use Rattle.lf_definitions.specs.Syntax.{LfHead, metavariable, Spine, no_args, arg, joined, SimpleType, LfType, Context, shape_of, shapes_of_types}
use Rattle.lf_definitions.specs.Renaming.{rename_type}
use Rattle.lf_definitions.specs.Shaping.{Scope, under_all, ShapedSpine, ShapedList, ShapedType}
use Rattle.lf_definitions.specs.Substitution.{stays, push_all, SubstitutedType}
use Rattle.lf_definitions.specs.Expansion.{eta}
use Rattle.lf_definitions.specs.Typing.{LfGoal}
use Rattle.typing_laws.specs.EtaLaws.{expanded}
use Rattle.opening_laws.specs.Openings.{context_variable, keeping, AreKept, fresh_goal, kept_variables, IsOpenedFrom, LfOpened}
use Rattle.meta_openings.specs.Tables.{AreTables}
use Rattle.meta_openings.specs.declared.fresh.Setting.{Setting}

-- What is true of what arguments are opened in, for some context.
pub record IsSetting (setting : Setting) : Type 0 where
  pub context : Context
  pub shapes_are : setting.shapes.now ≡ shapes_of_types context
  pub are_kept : AreKept setting.places.now.kept.now 0 context setting.entries.now
  pub tables : AreTables setting.places.now (length setting.shapes.now)
  pub variables_are : setting.variables.now ≡ kept_variables setting.places.now.kept.now (length setting.shapes.now) setting.entries.now

-- The next argument, of this shape and this type, adds one term to those before, and a fresh goal where it isn't fixed.
abbrev pub AddsArgument : Setting → Option ℕ → SimpleType → LfType → Spine → List LfGoal → Spine → List LfGoal → Type 0
AddsArgument setting (Some place) s a ts goals us more =
    (us ≡ joined ts (arg (eta (context_variable (length setting.shapes.now) place) s) no_args)) × (more ≡ goals)
AddsArgument setting None s a ts goals us more =
    (us ≡ joined ts (arg (expanded (metavariable (setting.first + length goals)) (kept_variables setting.places.now.kept.now (length setting.shapes.now) setting.entries.now) s) no_args))
    × ((inside : LfType) → SubstitutedType (push_all ts stays) a (rename_type (keeping setting.places.now.kept.now (length setting.shapes.now)) inside) →
    more ≡ goals ++ fresh_goal (setting.first + length goals) setting.entries.now inside ∷ [])

abbrev pub OpensFrom : Setting → List (ℕ × ℕ) → Spine → ℕ → ℕ → LfType → Spine → List LfGoal → LfOpened → Type 0
OpensFrom setting fixed ts i first type later more result =
    IsOpenedFrom setting.places.now.kept.now (length setting.shapes.now) setting.entries.now fixed (push_all ts stays) i first type later more result.end

-- Of what a type is opened to these terms and goals, of its first arguments, are known. What is left of it is what the rest of the type is opened to, and all is shaped.
pub record IsLeft (setting : Setting) (fixed : List (ℕ × ℕ)) (type : LfType) (i : ℕ) (shapes : List SimpleType) (ts : Spine) (goals : List LfGoal) (rest : LfType) : Type 0 where
  pub result : LfOpened
  pub whole : OpensFrom setting fixed no_args 0 setting.first type result.terms result.fresh result
  pub later : Spine
  pub more : List LfGoal
  pub opens : OpensFrom setting fixed ts i (setting.first + length goals) rest later more result
  pub terms_are : joined ts later ≡ result.terms
  pub goals_are : goals ++ more ≡ result.fresh
  pub kinds : ℕ → Option SimpleType
  pub outer : Scope
  pub target : Scope
  pub keeps : (h : LfHead) (s : SimpleType) → outer h ≡ Some s → target h ≡ Some s
  pub rest_shaped : ShapedType kinds (under_all shapes outer) rest
  pub ts_shaped : ShapedList target ts shapes
  pub later_shaped : ShapedSpine target later (shape_of rest)
