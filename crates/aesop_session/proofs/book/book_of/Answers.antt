use Rattle.aesop_session.proofs.RuleSets.{IsOrder-same}
use Rattle.aesop_session.proofs.book.book_of.Goals as goal

pub returns : goal.returns
returns c = record {
  sig_is = c.in_ok-book.ensures.sig_is;
  book_is = c.in_ok-book.ensures.book_is;
  is_order = IsOrder-same _ _ _ _ c.in_ok-sets.ensures c.in_ok-book.ensures.is_order;
}
