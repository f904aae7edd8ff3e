use Rattle.std.proofs.Common.{arith}
use Rattle.meta_patterns.proofs.UnderBinders.{below_under}
use Rattle.meta_patterns.proofs.covering.below_under.Goals as goal

pub returns : goal.returns
returns c = below_under c.args.depth c.below.result c.saturating_add.result c.args.pattern.now c.below.ensures (omega (arith, c.saturating_add.ensures))
