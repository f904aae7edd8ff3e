use Rattle.tree_steps.proofs.Choosing.{NoneProvedBefore}
use Rattle.tree_steps.proofs.tree.Tree.chosen.Given as goal

abbrev pub invariant-loop-alternative : goal.invariant-loop-alternative
invariant-loop-alternative g l = NoneProvedBefore l.self.shape.shape l.node l.alternative
