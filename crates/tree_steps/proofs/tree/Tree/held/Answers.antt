use Rattle.tree_steps.proofs.HeldSeats.{told_is_held}
use Rattle.tree_steps.proofs.tree.Tree.held.Goals as goal

pub returns-clause-state : goal.returns-clause-state
returns-clause-state g c = λ problem tree. told_is_held (g.P.Problem.branches problem) (g.P.Problem.seen problem) (g.P.Problem.is_own problem) c.args.self.now tree c.args.seat c.as_slice.result.now c.held_node.result c.as_slice.ensures.value c.held_node.ensures
