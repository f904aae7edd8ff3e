-- A type and a context in which it is opened.
use Rattle.std.specs.Prelude.{ℕ, List, [], ◌∷◌}
use Rattle.lf_definitions.specs.Syntax.{bound, at, Spine, no_args, arg, LfType, pi, family, Context}

abbrev pub variable_args : ℕ → ℕ → Spine
variable_args m n = arg (at (bound m) no_args) (arg (at (bound n) no_args) no_args)

-- the family 0, and the family 1 of the newest variable
abbrev pub first_family : LfType
first_family = family 0 no_args

abbrev pub of_newest : LfType
of_newest = family 1 (arg (at (bound 0) no_args) no_args)

abbrev pub example_context : Context
example_context = first_family ∷ of_newest ∷ first_family ∷ pi first_family (family 2 (variable_args 3 2)) ∷ []

abbrev pub example_type : LfType
example_type = pi first_family (pi first_family (pi of_newest (pi (pi first_family (family 3 (variable_args 0 2))) (family 3 (variable_args 3 2)))))
