use Rattle.std.proofs.Common.{◌≤◌, map, take}
use Rattle.file_elab.specs.ProgramViews.{theorem_of}
use Rattle.command_words.specs.Given.{options_of}
use Rattle.aesop_session.specs.Documents.{WritesBlocks}
use Rattle.aesop_session.proofs.document.write_blocks.Given as goal

abbrev pub invariant-loop-theorem : goal.invariant-loop-theorem
invariant-loop-theorem g l = record {
  written : WritesBlocks l.book (options_of l.opts) (map theorem_of (take l.theorem-index l.theorems)) (g.K.Sink.held l.initial.sink) (g.K.Sink.held l.sink) l.status;
  faults_later : g.K.Sink.faults l.initial.sink ≤ g.K.Sink.faults l.sink;
  zeros_later : g.K.Sink.zeros l.initial.sink ≤ g.K.Sink.zeros l.sink;
}
