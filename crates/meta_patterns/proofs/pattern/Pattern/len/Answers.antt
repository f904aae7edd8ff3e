use Rattle.std.proofs.Common.{sym, ap, ◌∙◌, length}
use Rattle.meta_patterns.specs.Variables.{numbers_kept}
use Rattle.meta_patterns.proofs.OwnVariables.{length-own_numbers}
use Rattle.meta_patterns.proofs.pattern.Pattern.len.Goals as goal

pub returns-in-Own : goal.returns-in-Own
returns-in-Own c = sym (length-own_numbers c.in-Own.count) ∙ ap length (sym (ap numbers_kept c.in-Own.is) ∙ c.self.view_is)
