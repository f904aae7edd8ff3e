use Rattle.std.proofs.Common.{refl}
use Rattle.worker_tests.proofs.Fans.{one_branch_more}
use Rattle.worker_tests.proofs.regular.fan_of.Goals as goal

pub loop-place-preserved : goal.loop-place-preserved
loop-place-preserved c = one_branch_more _ _ _ _ _ c.in_ok-push.ensures.items c.loop-place.invariant refl c.in_ok-nodes.ensures
