use Rattle.std.proofs.Common.{arith}
use Rattle.tree_marks.specs.TreeMarks.{marked}
use Rattle.tree_marks.proofs.Entries.{all_from-next, all_from-fails}
use Rattle.tree_marks.proofs.Knowing.{all_from-less}
use Rattle.tree_marks.proofs.known.proved_run.Goals as goal

pub returns-then-not-proved-first-clause-ends : goal.returns-then-not-proved-first-clause-ends
returns-then-not-proved-first-clause-ends c = λ small. all_from-fails (marked c.args.proved.now) c.args.first c.args.count c.loop-place.place c.loop-place-test.true c.if-not-proved-first.true

pub loop-place-preserved : goal.loop-place-preserved
loop-place-preserved c = all_from-next (marked c.args.proved.now) c.args.first c.loop-place.place c.loop-place.invariant c.if-not-proved-first.false

pub returns-clause-run : goal.returns-clause-run
returns-clause-run c = all_from-less (marked c.args.proved.now) c.args.first c.loop-place.place c.args.count (omega arith) c.loop-place.invariant
