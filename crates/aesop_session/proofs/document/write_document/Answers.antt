use Rattle.std.proofs.Common.{◌∙◌, subst}
use Rattle.std.specs.Io.KnownBytes.{Appends}
use Rattle.run_io.specs.Moves.{AppendsPrefix}
use Rattle.command_words.specs.Given.{options_of}
use Rattle.aesop_session.proofs.Completion.{AppendsPrefix-nothing, WritesDocument-whole, WritesDocumentPrefix-first, WritesDocumentPrefix-blocks, WritesDocumentPrefix-last}
use Rattle.aesop_session.proofs.document.write_document.Goals as goal

pub returns-in-Err-clause-err : goal.returns-in-Err-clause-err
returns-in-Err-clause-err g c =
    WritesDocumentPrefix-first c.args.book.now (options_of c.args.opts.now) _ _ c.theorems_have_answers.ensures c.requires.formed _ (AppendsPrefix-nothing _ _)

pub returns-in-Err-write_text-clause-err : goal.returns-in-Err-write_text-clause-err
returns-in-Err-write_text-clause-err g c =
    WritesDocumentPrefix-first c.args.book.now (options_of c.args.opts.now) _ _ c.theorems_have_answers.ensures c.requires.formed _
    (subst (AppendsPrefix _ _) (c.as_bytes.ensures.value ∙ c.in-Ok.ensures) c.in-Err-write_text.ensures.err)

pub returns-in-Err-write_blocks-clause-err : goal.returns-in-Err-write_blocks-clause-err
returns-in-Err-write_blocks-clause-err g c =
    WritesDocumentPrefix-blocks c.args.book.now (options_of c.args.opts.now) _ _ c.theorems_have_answers.ensures c.requires.formed _ _
    (subst (Appends _ _) (c.as_bytes.ensures.value ∙ c.in-Ok.ensures) c.in_default.ensures.ok) c.in-Err-write_blocks.ensures.err

pub returns-in-Ok-write_text-clause-ok : goal.returns-in-Ok-write_text-clause-ok
returns-in-Ok-write_text-clause-ok g c =
    WritesDocument-whole c.args.book.now (options_of c.args.opts.now) _ _ _ _ _ _
    (subst (Appends _ _) (c.as_bytes.ensures.value ∙ c.in-Ok.ensures) c.in_default.ensures.ok) c.in-Ok-write_blocks.ensures.ok c.in-Ok-write_text.ensures.ok

pub returns-clause-err : goal.returns-clause-err
returns-clause-err g c =
    WritesDocumentPrefix-last c.args.book.now (options_of c.args.opts.now) _ _ _ _ _ _
    (subst (Appends _ _) (c.as_bytes.ensures.value ∙ c.in-Ok.ensures) c.in_default.ensures.ok) c.in-Ok-write_blocks.ensures.ok c.in-Err-write_text-2.ensures.err
