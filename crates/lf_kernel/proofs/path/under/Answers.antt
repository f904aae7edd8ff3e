use Rattle.std.proofs.Common.{sym, append-nil}
use Rattle.lf_kernel.proofs.Paths.{zero_more}
use Rattle.lf_kernel.proofs.path.under.Goals as goal

pub loop-init : goal.loop-init
loop-init c = sym (append-nil _)

pub loop-preserved : goal.loop-preserved
loop-preserved c = zero_more c.args.path c.loop.path _ c.loop.counter c.loop.invariant c.in_ok-push.ensures.ok
