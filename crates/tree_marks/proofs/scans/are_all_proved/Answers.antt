use Rattle.std.proofs.Common.{sym}
use Rattle.tree_marks.specs.TreeMarks.{marked}
use Rattle.tree_marks.proofs.Entries.{all_from-next, all_from-fails}
use Rattle.tree_marks.proofs.scans.are_all_proved.Goals as goal

pub returns-then-not-proved-first : goal.returns-then-not-proved-first
returns-then-not-proved-first c = sym (all_from-fails (marked c.args.proved.now) c.args.first c.args.count c.loop-place.place c.loop-place-test.true c.if-not-proved-first.true)

pub loop-place-preserved : goal.loop-place-preserved
loop-place-preserved c = all_from-next (marked c.args.proved.now) c.args.first c.loop-place.place c.loop-place.invariant c.if-not-proved-first.false
