use Rattle.build_forward.proofs.PassedTuples.{repeated_more}
use Rattle.build_forward.proofs.rule.repeated.Goals as goal

pub loop-i-preserved : goal.loop-i-preserved
loop-i-preserved c =
    repeated_more c.loop-i.tuple.items _ c.args.hyp.now c.in_ok-other.other c.loop-i.i c.loop-i.invariant c.in_ok-other.ensures c.in_ok-push.ensures.items
