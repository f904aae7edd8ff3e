use Rattle.std.proofs.Common.{arith, refl}
use Rattle.rule_index.proofs.Nodes.{nodes_then}
use Rattle.rule_index.proofs.Trees.{closed_longer}
use Rattle.rule_index.proofs.tree.KeyTree.add.Goals as goal

pub returns-in_ok-root-in-Family-clause-grows : goal.returns-in_ok-root-in-Family-clause-grows
returns-in_ok-root-in-Family-clause-grows c = record {
  general = c.root.ensures.grows.general;
  families = c.root.ensures.grows.families;
  nodes = nodes_then c.args.self.now.nodes.items c.root.new.self.nodes.items c.insert.new.nodes.items c.root.ensures.grows.nodes c.insert.ensures.grows;
  levels = omega (arith, c.max-self.ensures, c.root.ensures.grows.levels);
}

pub returns-in_ok-root-in-Family-clause-closed : goal.returns-in_ok-root-in-Family-clause-closed
returns-in_ok-root-in-Family-clause-closed c =
    let tree = c.root.new.self in
    closed_longer tree (record { general = tree.general; families = tree.families; nodes = c.insert.new.nodes; levels = tree.levels }) c.insert.ensures.closed c.insert.ensures.grows.longer refl c.root.ensures.closed
