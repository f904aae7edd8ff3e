use Rattle.basics.proofs.Tables.{shown, shown-insert_key}
use Rattle.std.proofs.Common.{ap, ◌∙◌}
use Rattle.basics.proofs.names.Names.add.Goals as goal

pub returns-clause-ok : goal.returns-clause-ok
returns-clause-ok c = ap shown c.in_ok-insert_full.ensures.keys ∙ shown-insert_key _ _ _ _ c.in_ok-name.ensures.items c.self.view_is c.requires
