use Rattle.tree_shared.specs.Tasks.{IsTask}
use Rattle.tree_shared.proofs.workers.work.Given as goal

abbrev pub invariant-loop : goal.invariant-loop
invariant-loop g l = IsTask (g.P.Problem.is_own l.problem) g.J.TreeName.workers l.task
