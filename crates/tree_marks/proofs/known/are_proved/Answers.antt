use Rattle.std.proofs.Common.{sym, arith}
use Rattle.tree_marks.specs.TreeMarks.{marked}
use Rattle.tree_marks.proofs.Knowing.{all_from-less}
use Rattle.tree_marks.proofs.known.are_proved.Goals as goal

pub returns-clause-all : goal.returns-clause-all
returns-clause-all c = sym (all_from-less (marked c.args.proved.now) c.args.first c.proved_run-run.result c.args.count (omega (arith, c.if-run-count.false)) c.proved_run-run.ensures.run)
