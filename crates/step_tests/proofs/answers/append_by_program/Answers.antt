use Rattle.step_tests.proofs.answers.append_by_program.Goals as goal

pub append_by_book-requires-clause-book : goal.append_by_book-requires-clause-book
append_by_book-requires-clause-book c = c.in_ok-book.ensures.sig_is
