-- Theorems and programs of the code, seen as plain data.
use Rattle.lf_terms.specs.Types.{type_of}
use Rattle.file_elab.specs.Theorems.{LfTheorem}
use Rattle.file_elab.specs.Programs.{LfProgram}
use Rattle.file_elab.specs.declared.theorem.Theorem.{Theorem}
use Rattle.file_elab.specs.declared.program.Program.{Program}

abbrev pub theorem_of : Theorem → LfTheorem
theorem_of theorem = record { name = theorem.name; type = type_of theorem.ty }

abbrev pub program_of : Program → LfProgram
program_of program = record { signature = program.sig; book = program.rules; theorems = program.theorems }
