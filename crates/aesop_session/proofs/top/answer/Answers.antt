use Rattle.std.proofs.Common.{sym, subst, inl, inr, map}
use Rattle.std.proofs.KnownBytes.{Keeps-refl}
use Rattle.file_elab.specs.ProgramViews.{theorem_of, program_of}
use Rattle.file_elab.specs.Theorems.{AreFormed}
use Rattle.command_words.specs.Given.{options_of}
use Rattle.aesop_session.specs.Documents.{WritesDocument, WritesDocumentPrefix}
use Rattle.aesop_session.proofs.Answering.{Answered-document, TakesPrefix-document, TakesProgram-at_most, not_read_fault, not_write_fault}
use Rattle.aesop_session.proofs.top.answer.Goals as goal

pub returns-in-Err-clause-answered : goal.returns-in-Err-clause-answered
returns-in-Err-clause-answered g c = λ call words left later proves takes. inr (inl ((options_of c.args.opts.now, proves), TakesProgram-at_most left later _ takes, Keeps-refl _))

pub write_document-requires-clause-formed : goal.write_document-requires-clause-formed
write_document-requires-clause-formed g c =
    subst (λ sig. AreFormed sig (map theorem_of c.as_slice.result.now)) (sym c.in-Ok.ensures.sig_is)
    (subst (AreFormed c.args.program.now.sig) (sym c.as_slice.ensures) c.requires.theorems)

pub returns-in-Ok-write_document-clause-answered : goal.returns-in-Ok-write_document-clause-answered
returns-in-Ok-write_document-clause-answered g c = λ call words left later proves takes.
    Answered-document call words left later (options_of c.args.opts.now) (program_of c.args.program.now) c.in-Ok.book
    (record { is_served = proves; taken = takes; is_book = c.in-Ok.ensures }) (g.K.Sink.held c.args.sink.now) (g.K.Sink.held c.write_document.new.sink) c.in-Ok-write_document.status
    (subst (λ theorems. WritesDocument c.in-Ok.book (options_of c.args.opts.now) theorems (g.K.Sink.held c.args.sink.now) (g.K.Sink.held c.write_document.new.sink) c.in-Ok-write_document.status)
    c.as_slice.ensures c.in-Ok-write_document.ensures.ok)

pub returns-in-Ok-write_document-clause-no_read_fault : goal.returns-in-Ok-write_document-clause-no_read_fault
returns-in-Ok-write_document-clause-no_read_fault g c = not_read_fault _ _ _ _ _ _ c.in-Ok-write_document.ensures.ok

pub returns-in-Ok-write_document-clause-write_fault : goal.returns-in-Ok-write_document-clause-write_fault
returns-in-Ok-write_document-clause-write_fault g c = λ e. absurd (not_write_fault _ _ _ _ _ _ c.in-Ok-write_document.ensures.ok e)

pub returns-in-Err-Write-clause-answered : goal.returns-in-Err-Write-clause-answered
returns-in-Err-Write-clause-answered g c = λ call words left later proves takes.
    TakesPrefix-document call words left later (options_of c.args.opts.now) (program_of c.args.program.now) c.in-Ok.book
    (record { is_served = proves; taken = takes; is_book = c.in-Ok.ensures }) (g.K.Sink.held c.args.sink.now) (g.K.Sink.held c.write_document.new.sink)
    (subst (λ theorems. WritesDocumentPrefix c.in-Ok.book (options_of c.args.opts.now) theorems (g.K.Sink.held c.args.sink.now) (g.K.Sink.held c.write_document.new.sink)) c.as_slice.ensures c.in-Err-Write.ensures.err)

pub returns-clause-answered : goal.returns-clause-answered
returns-clause-answered g c = λ call words left later proves takes.
    inr (inr (TakesPrefix-document call words left later (options_of c.args.opts.now) (program_of c.args.program.now) c.in-Ok.book
    (record { is_served = proves; taken = takes; is_book = c.in-Ok.ensures }) (g.K.Sink.held c.args.sink.now) (g.K.Sink.held c.write_document.new.sink)
    (subst (λ theorems. WritesDocumentPrefix c.in-Ok.book (options_of c.args.opts.now) theorems (g.K.Sink.held c.args.sink.now) (g.K.Sink.held c.write_document.new.sink)) c.as_slice.ensures c.in-Err-NoMemory.ensures.err)))
