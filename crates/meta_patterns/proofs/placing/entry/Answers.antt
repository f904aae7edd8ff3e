use Rattle.std.proofs.Common.{sym, ◌∙◌}
use Rattle.meta_patterns.proofs.Placings.{placed_none}
use Rattle.meta_patterns.proofs.placing.entry.Goals as goal

pub returns-in-None : goal.returns-in-None
returns-in-None c = placed_none c.args.pattern.now c.args.number (sym c.placed_number.ensures ∙ c.in-None.is)
