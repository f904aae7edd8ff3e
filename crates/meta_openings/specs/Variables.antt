-- What is added to the variables of the kept entries.
use Rattle.std.specs.Prelude.{Bool, if◌then◌else◌}
use Rattle.lf_definitions.specs.Syntax.{LfTerm, Spine, no_args, arg}

abbrev pub variable_if : Bool → LfTerm → Spine
variable_if b t = if b then arg t no_args else no_args
