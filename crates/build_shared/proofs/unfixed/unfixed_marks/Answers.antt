use Rattle.std.proofs.Common.{false}
use Rattle.applications.specs.Candidates.{unfixed_marks}
use Rattle.build_shared.proofs.UnfixedMarks.{marks_more}
use Rattle.build_shared.proofs.unfixed.unfixed_marks.Goals as goal

pub loop-i-preserved : goal.loop-i-preserved
loop-i-preserved c =
    marks_more c.args.fixed.now (unfixed_marks c.args.fixed.now 0 c.args.marks.now) c.loop-i.left.items c.add_unfixed.new.left.items c.args.marks.now c.loop-i.i false c.loop-i-test.true c.in_ok-add_unfixed.ensures c.loop-i.invariant
