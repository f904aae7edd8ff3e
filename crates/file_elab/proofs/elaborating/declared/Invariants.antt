use Rattle.std.proofs.Common.{take}
use Rattle.rule_sets.specs.Refusals.{IsOver}
use Rattle.file_elab.specs.ProgramViews.{program_of}
use Rattle.file_elab.specs.Programs.{DeclaresAll, first_program}
use Rattle.file_elab.specs.Theorems.{AreFormed}
use Rattle.file_elab.proofs.elaborating.declared.Given as goal

abbrev pub invariant-loop-declaration : goal.invariant-loop-declaration
invariant-loop-declaration l = record {
  made : DeclaresAll l.source first_program (take l.declaration-index l.declarations) (program_of l.program);
  formed : AreFormed l.program.sig l.program.theorems;
  over : IsOver l.program.sig l.program.rules;
}
