use Rattle.std.proofs.Common.{sym, ◌∙◌, arith}
use Rattle.tree_steps.proofs.Choosing.{ungrown_unproved, none_at_all, proved_by_one, unproved_by_all}
use Rattle.tree_steps.proofs.tree.Tree.chosen.Goals as goal

pub returns-in_default-clause-proved : goal.returns-in_default-clause-proved
returns-in_default-clause-proved g c = sym (ungrown_unproved c.args.self.now.shape.shape c.requires.marks.is_shape c.args.node c.in_default.ensures)

pub returns-then-proves-clause-proved : goal.returns-then-proves-clause-proved
returns-then-proves-clause-proved g c = sym (proved_by_one c.args.self.now.shape.shape c.requires.marks.is_shape c.args.node c.loop-alternative.alternative (sym c.proves.ensures ∙ c.if-proves.true))

pub returns-clause-least : goal.returns-clause-least
returns-clause-least g c = none_at_all c.args.self.now.shape.shape c.args.node c.in-Some.width c.loop-alternative.alternative c.in-Some.ensures (omega arith) c.loop-alternative.invariant

pub returns-clause-proved : goal.returns-clause-proved
returns-clause-proved g c = sym (unproved_by_all c.args.self.now.shape.shape c.requires.marks.is_shape c.args.node c.in-Some.width c.in-Some.ensures
    (none_at_all c.args.self.now.shape.shape c.args.node c.in-Some.width c.loop-alternative.alternative c.in-Some.ensures (omega arith) c.loop-alternative.invariant))
