use Rattle.std.proofs.Common.{subst, sym}
use Rattle.file_elab.specs.ProgramViews.{theorem_of}
use Rattle.command_words.specs.Given.{options_of}
use Rattle.aesop_session.specs.Documents.{IsBlockText}
use Rattle.aesop_session.proofs.Completion.{WritesBlocks-one, WritesBlocksPrefix-one, WritesBlocksPrefix-none}
use Rattle.aesop_session.proofs.block.answer_theorem.Goals as goal

pub returns-in-Err-clause-err : goal.returns-in-Err-clause-err
returns-in-Err-clause-err g c = WritesBlocksPrefix-none c.args.book.now (options_of c.args.opts.now) _ _

pub returns-in-Ok-write_text-clause-ok : goal.returns-in-Ok-write_text-clause-ok
returns-in-Ok-write_text-clause-ok g c =
    WritesBlocks-one c.args.book.now (options_of c.args.opts.now) _ _ _ _ _
    (subst (IsBlockText c.args.book.now (options_of c.args.opts.now) (theorem_of c.args.theorem.now) _) (sym c.as_slice.ensures) c.in-Ok.ensures) c.in-Ok-write_text.ensures.ok

pub returns-in-Err-write_text-clause-err : goal.returns-in-Err-write_text-clause-err
returns-in-Err-write_text-clause-err g c =
    WritesBlocksPrefix-one c.args.book.now (options_of c.args.opts.now) _ _ _ _ _
    (subst (IsBlockText c.args.book.now (options_of c.args.opts.now) (theorem_of c.args.theorem.now) _) (sym c.as_slice.ensures) c.in-Ok.ensures) c.in-Err-write_text.ensures.err
