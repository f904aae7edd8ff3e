use Rattle.std.proofs.Common.{arith}
use Rattle.run_io.proofs.Taking.{takes_at_most, takes_more_than}
use Rattle.run_io.proofs.reading.read_all.Goals as goal

pub returns-then-count-limit-clause-too_long : goal.returns-then-count-limit-clause-too_long
returns-then-count-limit-clause-too_long g c =
    λ _. takes_more_than _ _ _ _ _ _ _ c.loop-taken.invariant.gave c.in-Ok.ensures.bytes.0 c.in-Ok.ensures.bound (omega arith)

pub returns-in_err-append-in-Ok-clause-memory_takes : goal.returns-in_err-append-in-Ok-clause-memory_takes
returns-in_err-append-in-Ok-clause-memory_takes g c =
    λ _. takes_at_most _ _ _ _ _ _ _ c.loop-taken.invariant.gave c.in-Ok.ensures.bytes.0 c.in-Ok.ensures.bound (omega arith)

pub returns-then-count-limit-clause-too_long_takes : goal.returns-then-count-limit-clause-too_long_takes
returns-then-count-limit-clause-too_long_takes g c =
    λ _. takes_at_most _ _ _ _ _ _ _ c.loop-taken.invariant.gave c.in-Ok.ensures.bytes.0 c.in-Ok.ensures.bound (omega (arith, c.in-Ok.ensures.bound, c.in_ok-room.ensures))
