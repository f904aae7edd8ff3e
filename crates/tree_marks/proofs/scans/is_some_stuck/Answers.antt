use Rattle.std.proofs.Common.{sym}
use Rattle.tree_marks.specs.TreeMarks.{marked}
use Rattle.tree_marks.proofs.Entries.{any_from-next, any_from-holds}
use Rattle.tree_marks.proofs.scans.is_some_stuck.Goals as goal

pub returns-then-stuck-first : goal.returns-then-stuck-first
returns-then-stuck-first c = sym (any_from-holds (marked c.args.stuck.now) c.args.first c.args.count c.loop-place.place c.loop-place-test.true c.if-stuck-first.true)

pub loop-place-preserved : goal.loop-place-preserved
loop-place-preserved c = any_from-next (marked c.args.stuck.now) c.args.first c.loop-place.place c.loop-place.invariant c.if-stuck-first.false
