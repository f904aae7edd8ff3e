use Rattle.std.proofs.Common.{subst, arith}
use Rattle.file_elab.specs.ProgramViews.{theorem_of}
use Rattle.command_words.specs.Given.{options_of}
use Rattle.aesop_session.specs.Documents.{WritesBlocks}
use Rattle.aesop_session.proofs.Completion.{WritesBlocks-none, WritesBlocks-append, WritesBlocksPrefix-append, mapped_more, mapped_parts, theorem_formed}
use Rattle.aesop_session.proofs.document.write_blocks.Goals as goal

pub loop-theorem-init : goal.loop-theorem-init
loop-theorem-init g c = record {
  written = WritesBlocks-none c.args.book.now (options_of c.args.opts.now) _;
  faults_later = omega arith;
  zeros_later = omega arith;
}

pub returns-in-Err-clause-err : goal.returns-in-Err-clause-err
returns-in-Err-clause-err g c =
    WritesBlocksPrefix-append c.args.book.now (options_of c.args.opts.now) _ _ _ _ _ _ _ _
    (mapped_parts theorem_of _ _ _ c.loop-theorem-test.true c.theorem-item.is)
    c.loop-theorem.invariant.written c.in-Err.ensures.err

pub loop-theorem-preserved : goal.loop-theorem-preserved
loop-theorem-preserved g c = record {
  written = subst (λ theorems. WritesBlocks c.args.book.now (options_of c.args.opts.now) theorems (g.K.Sink.held c.args.sink.now) (g.K.Sink.held c.answer_theorem.new.sink) c.joined-status.result)
      (mapped_more theorem_of _ _ _ c.loop-theorem-test.true c.theorem-item.is)
      (WritesBlocks-append c.args.book.now (options_of c.args.opts.now) _ _ _ _ _ _ _ _ c.loop-theorem.invariant.written c.in-Ok.ensures.ok c.joined-status.ensures);
  faults_later = omega (arith, c.loop-theorem.invariant.faults_later, c.in-Ok.ensures.faults_later);
  zeros_later = omega (arith, c.loop-theorem.invariant.zeros_later, c.in-Ok.ensures.zeros_later);
}

pub answer_theorem-requires-clause-formed : goal.answer_theorem-requires-clause-formed
answer_theorem-requires-clause-formed g c = theorem_formed c.args.book.now.sig c.args.theorems.now c.loop-theorem.theorem-index c.theorem-item.result c.requires.formed c.loop-theorem-test.true c.theorem-item.is
