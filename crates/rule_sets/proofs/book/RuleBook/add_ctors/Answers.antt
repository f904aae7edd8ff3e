use Rattle.std.proofs.Common.{◌∙◌, sym, refl}
use Rattle.rule_sets.specs.Refusals.{list_taken}
use Rattle.rule_sets.proofs.Tested.{not_none}
use Rattle.rule_sets.proofs.book.RuleBook.add_ctors.Goals as goal

pub returns-then-is_some : goal.returns-then-is_some
returns-then-is_some c = (list_taken (not_none _ _ c.ctors.ensures (sym c.is_some.ensures ∙ c.if-is_some.true)), refl)
