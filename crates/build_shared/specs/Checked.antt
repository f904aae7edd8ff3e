-- Answers of checks as truth values.
use Rattle.std.specs.Prelude.{Bool, true, false}
use Rattle.lf_kernel.specs.declared.answer.Check.{Check}
use Rattle.lf_kernel.specs.declared.answer.Check.TheVariants.{Well, Ill}

abbrev pub found_well : Check → Bool
found_well Well = true
found_well (Ill path) = false
