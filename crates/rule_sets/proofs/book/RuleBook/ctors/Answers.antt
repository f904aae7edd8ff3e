use Rattle.std.proofs.Common.{sym, ap, ◌∙◌}
use Rattle.rule_sets.specs.Books.{list_of}
use Rattle.rule_sets.proofs.Tables.{list_of-listed}
use Rattle.rule_sets.proofs.book.RuleBook.ctors.Goals as goal

pub returns : goal.returns
returns c = c.get.ensures.value ∙ sym (list_of-listed c.args.family _) ∙ ap (λ b. list_of b.lists c.args.family) c.self.view_is
