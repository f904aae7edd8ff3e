use Rattle.worker_tests.proofs.Fans.{one_more}
use Rattle.worker_tests.proofs.regular.children_of.Goals as goal

pub loop-place-preserved : goal.loop-place-preserved
loop-place-preserved c = one_more _ _ _ _ c.in_ok-push.ensures.items c.loop-place.invariant
