use Rattle.std.proofs.Common.{arith}
use Rattle.tree_marks.specs.TreeMarks.{marked}
use Rattle.tree_marks.proofs.Entries.{children_stand}
use Rattle.tree_marks.proofs.Knowing.{first_stands, only_alternative}
use Rattle.tree_marks.proofs.known.is_proved_above.Goals as goal

pub are_proved-requires-clause-stand : goal.are_proved-requires-clause-stand
are_proved-requires-clause-stand c = let stand = children_stand c.args.shape.now.shape c.requires.shape c.args.node _ _ _ c.children-first.ensures in omega (arith, stand)

pub are_proved-requires-clause-within : goal.are_proved-requires-clause-within
are_proved-requires-clause-within c = let stands = first_stands c.args.shape.now.shape c.requires.shape c.args.node _ _ _ c.requires.stands c.children-first.ensures in omega (arith, stands)

pub returns-clause-is : goal.returns-clause-is
returns-clause-is c = only_alternative c.args.shape.now.shape c.args.node c.args.alternative c.children-first.result (marked c.args.proved.now) c.children-first.ensures (c.requires.others c.if-proved-node.false) c.are_proved.result c.are_proved.ensures.all
