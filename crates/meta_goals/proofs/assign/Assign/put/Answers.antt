use Rattle.meta_goals.proofs.BindingTables.{bindings_again}
use Rattle.meta_goals.proofs.assign.Assign.put.Goals as goal

pub returns-clause-ok : goal.returns-clause-ok
returns-clause-ok c = bindings_again c.args.id c.args.entry c.self.inside.entries.entries c.insert.new.self.entries c.args.self.now c.self.view_is c.in_ok-insert.ensures.entries
