use Rattle.std.proofs.Common.{sym, arith}
use Rattle.tree_marks.proofs.Knowing.{passed_whole, passed_partly}
use Rattle.tree_marks.proofs.known.has_passed.Goals as goal

pub returns-then-passed-width : goal.returns-then-passed-width
returns-then-passed-width c = λ stuck before next. sym (passed_partly c.args.shape.now.shape c.args.node c.in-Some.width c.args.passed stuck c.in-Some.ensures c.if-passed-width.true next)

pub returns : goal.returns
returns c = λ stuck before next. sym (passed_whole c.args.shape.now.shape c.args.node c.in-Some.width c.args.passed stuck c.in-Some.ensures (omega (arith, c.if-passed-width.false)) before)
