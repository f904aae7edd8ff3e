-- A head without arguments that is put for a goal without a context.
use Rattle.std.specs.Prelude.{ℕ, List, [], ◌∷◌}
use Rattle.lf_definitions.specs.Syntax.{LfHead, LfTerm, at, no_args}
use Rattle.meta_goals.specs.Bindings.{LfBinding}

abbrev pub bare : LfHead → LfTerm
bare h = at h no_args

abbrev pub put_head : ℕ → LfHead → List LfBinding
put_head g h = record { number = g; shapes = []; bound_body = bare h } ∷ []
