use Rattle.std.proofs.Common.{arith}
use Rattle.build_shared.proofs.FrozenNumbers.{number_at}
use Rattle.build_shared.proofs.dropping.stands_at.Goals as goal

pub returns : goal.returns
returns c = λ same. number_at c.args.items.now c.args.number c.args.place (omega (arith, c.if-number-items.false)) same
