use Rattle.std.proofs.Common.{sym, ap, ◌∙◌, subst}
use Rattle.meta_patterns.specs.Variables.{numbers_kept, HasBelow}
use Rattle.meta_patterns.proofs.OwnVariables.{own_below}
use Rattle.meta_patterns.proofs.pattern.Pattern.below.Goals as goal

pub returns-in-Own : goal.returns-in-Own
returns-in-Own c = subst (λ ns. HasBelow ns c.in-Own.count) (sym (ap numbers_kept c.in-Own.is) ∙ c.self.view_is) (own_below c.in-Own.count)
