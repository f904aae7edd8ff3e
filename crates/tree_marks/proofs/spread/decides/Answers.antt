use Rattle.std.proofs.Common.{sym, arith}
use Rattle.std.proofs.lemmas.Bool.{or_right, or_from}
use Rattle.tree_runs.specs.Marks.{all_from}
use Rattle.tree_marks.specs.TreeMarks.{marked}
use Rattle.tree_marks.proofs.Knowing.{all_from-less}
use Rattle.tree_marks.proofs.spread.decides.Goals as goal

pub returns-then-run-count : goal.returns-then-run-count
returns-then-run-count c = sym (or_from _ _ c.if-stuck-node.false (c.proved_run-run.ensures.ends c.if-run-count.true))

pub returns : goal.returns
returns c = sym (or_right (marked c.args.stuck.now c.args.node) (all_from (marked c.args.proved.now) c.args.first c.args.count)
    (all_from-less (marked c.args.proved.now) c.args.first c.proved_run-run.result c.args.count (omega (arith, c.if-run-count.false)) c.proved_run-run.ensures.run))
