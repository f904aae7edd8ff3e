use Rattle.std.proofs.Common.{sym, ◌∙◌}
use Rattle.file_elab.proofs.RuleReading.{family_read, no_family_read}
use Rattle.file_elab.proofs.rule_parts.read_family.Goals as goal

pub returns-in-None : goal.returns-in-None
returns-in-None c = no_family_read c.args.sig.now c.args.book.now c.args.name.now c.families.result c.requires (sym c.family_named.ensures ∙ c.in-None.is) c.families.ensures.kinds

pub returns-in-Some : goal.returns-in-Some
returns-in-Some c = family_read c.args.sig.now c.args.book.now c.args.name.now c.in-Some.family (sym c.family_named.ensures ∙ c.in-Some.is)
