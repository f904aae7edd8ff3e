use Rattle.file_elab.proofs.OneProgram.{one_program_of_file, program_not_refused, one_fault_of_file}
use Rattle.file_elab.proofs.laws.a_file_has_one_program.Goals as goal

pub returns : goal.returns
returns c bytes declarations = (one_program_of_file bytes declarations, program_not_refused bytes declarations, one_fault_of_file bytes declarations)
