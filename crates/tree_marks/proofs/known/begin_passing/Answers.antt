use Rattle.tree_marks.proofs.Knowing.{knows_passed}
use Rattle.tree_marks.proofs.known.begin_passing.Goals as goal

pub returns-clause-knows : goal.returns-clause-knows
returns-clause-knows c = knows_passed c.args.shape.now.shape c.args.stuck.now _ c.args.node _ c.put_passed.ensures.passed c.passed_from-passed.ensures.before c.passed_from-passed.ensures.next
