use Rattle.std.proofs.Common.{sym}
use Rattle.meta_patterns.proofs.OwnVariables.{own_inside, own_outside}
use Rattle.meta_patterns.proofs.pattern.own_number.Goals as goal

pub returns-then-number-count : goal.returns-then-number-count
returns-then-number-count c = sym (own_inside c.args.count c.args.number c.if-number-count.true)

pub returns-else-number-count : goal.returns-else-number-count
returns-else-number-count c = sym (own_outside c.args.count c.args.number c.if-number-count.false)
