-- What the code opens a type to.
use Rattle.std.specs.Prelude.{ℕ, List}
use Rattle.lf_definitions.specs.Syntax.{LfType, Context}
use Rattle.lf_definitions.specs.Typing.{LfGoal}
use Rattle.lf_definitions.specs.Signatures.{LfSignature}
use Rattle.opening_laws.specs.Openings.{LfOpened}
use Rattle.opening_laws.specs.Conditions.{MayBeOpened}
use Rattle.meta_openings.specs.declared.open.Opened.{Opened}

-- A type may be opened among some goals of some signature.
abbrev pub IsOpenable : Context → List ℕ → List (ℕ × ℕ) → ℕ → LfType → Type 0
IsOpenable ctx kept fixed first type = (sig : LfSignature) × (goals : List LfGoal) × MayBeOpened sig goals ctx kept fixed first type

-- as plain data
abbrev pub opened_type_of : Opened → LfOpened
opened_type_of opened = record { terms = opened.terms; fresh = opened.fresh; end = record { atom_family = opened.conclusion.family; atom_args = opened.conclusion.args } }
