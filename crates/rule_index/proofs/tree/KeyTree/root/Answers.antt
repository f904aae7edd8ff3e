use Rattle.std.proofs.Common.{◌∷◌, [], le_refl, arith, refl, ◌∙◌}
use Rattle.std.proofs.lemmas.Grind.{common_steps}
use Rattle.rule_index.proofs.Nodes.{nodes_append}
use Rattle.rule_index.proofs.Trees.{closed_still, root_alone, root_of_family}
use Rattle.rule_index.proofs.tree.KeyTree.root.Goals as goal

pub returns-in_err-insert-clause-grows : goal.returns-in_err-insert-clause-grows
returns-in_err-insert-clause-grows c = record {
  general = λ place h. h;
  families = λ f root h. grind (arith, common_steps);
  nodes = nodes_append c.args.self.now.nodes.items (c.new.result ∷ []) c.push.new.self.items c.in_ok-push.ensures.items;
  levels = le_refl _;
}

pub returns-clause-grows : goal.returns-clause-grows
returns-clause-grows c = record {
  general = λ place h. h;
  families = λ f root h. grind (arith, common_steps);
  nodes = nodes_append c.args.self.now.nodes.items (c.new.result ∷ []) c.push.new.self.items c.in_ok-push.ensures.items;
  levels = le_refl _;
}

pub returns-in_err-push-clause-closed : goal.returns-in_err-push-clause-closed
returns-in_err-push-clause-closed c =
    let tree = c.args.self.now in
    closed_still tree (record { general = tree.general; families = tree.families; nodes = c.push.new.self; levels = tree.levels }) c.in_err-push.ensures.items refl c.requires

pub returns-in_err-insert-clause-closed : goal.returns-in_err-insert-clause-closed
returns-in_err-insert-clause-closed c =
    let tree = c.args.self.now in
    root_alone tree (record { general = tree.general; families = c.insert.new.self; nodes = c.push.new.self; levels = tree.levels }) c.new.result c.len-root.result c.in_ok-push.ensures.items (c.len-root.ensures ∙ tree.nodes.ok.0)
    c.new.ensures.open c.new.ensures.constants c.requires c.in_err-insert.ensures.err

pub returns-clause-closed : goal.returns-clause-closed
returns-clause-closed c =
    let tree = c.args.self.now in
    root_of_family tree (record { general = tree.general; families = c.insert.new.self; nodes = c.push.new.self; levels = tree.levels }) c.new.result c.len-root.result c.in_ok-push.ensures.items (c.len-root.ensures ∙ tree.nodes.ok.0)
    c.new.ensures.open c.new.ensures.constants c.requires c.args.family (λ other. c.in_ok-insert.ensures.updates.0 other)
