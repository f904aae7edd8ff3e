use Rattle.std.proofs.Common.{rules, ◌==◌, not}
use Rattle.std.proofs.lemmas.Fn.{filter_same}
use Rattle.tree_steps.specs.declared.tree.Holding.{Holding}
use Rattle.tree_steps.proofs.tree.drop_seat.Goals as goal

pub returns : goal.returns
returns c = filter_same _ (λ (holding : Holding). not (holding.seat == c.args.seat)) _ (λ x b q k. search rules) c.args.held.now.items c.retain.new.self.items c.retain.ensures.filtered
