use Rattle.std.proofs.Common.{sym, ap, ◌∙◌}
use Rattle.meta_patterns.specs.Variables.{numbers_kept}
use Rattle.meta_patterns.proofs.OwnVariables.{own_is}
use Rattle.meta_patterns.proofs.pattern.Pattern.is_own.Goals as goal

pub returns-in-Own : goal.returns-in-Own
returns-in-Own c = λ yes. own_is c.in-Own.field-0 c.args.self.now (sym (ap numbers_kept c.in-Own.is) ∙ c.self.view_is)
