use Rattle.lf_terms.proofs.Expansions.{raised_bound, raised_other}
use Rattle.lf_terms.proofs.eta.raised.Goals as goal

pub returns-else-count-number : goal.returns-else-count-number
returns-else-count-number c = raised_bound c.args.head c.in-Bound.number c.args.count c.in-Bound.is

pub returns-in-Const : goal.returns-in-Const
returns-in-Const c = raised_other c.args.head c.args.count c.in-Const.is
