use Rattle.std.proofs.Common.{sym, ◌∙◌}
use Rattle.meta_patterns.proofs.OwnVariables.{own_pattern}
use Rattle.meta_patterns.proofs.pattern.pattern_of.Goals as goal

pub returns-then-branch : goal.returns-then-branch
returns-then-branch c = own_pattern c.len-count.result c.args.args.now (sym c.in_ok-are_own.ensures ∙ c.if-branch.true)
