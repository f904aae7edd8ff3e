use Rattle.std.proofs.Common.{arith}
use Rattle.tree_marks.proofs.Entries.{children_stand}
use Rattle.tree_marks.proofs.Knowing.{none_past}
use Rattle.tree_marks.proofs.known.passed_from.Goals as goal

pub is_some_stuck-requires : goal.is_some_stuck-requires
is_some_stuck-requires c = let stand = children_stand c.args.shape.now.shape c.requires.shape c.args.node _ _ _ c.children-first.ensures in omega (arith, stand)

pub returns-clause-next : goal.returns-clause-next
returns-clause-next c = none_past c.args.shape.now.shape c.args.node c.in-Some.width c.in-Some.width c.args.stuck.now c.in-Some.ensures (omega arith)
