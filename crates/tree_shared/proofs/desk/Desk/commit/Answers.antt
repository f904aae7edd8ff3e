use Rattle.tree_shared.proofs.Naming.{keeps_name}
use Rattle.tree_shared.proofs.desk.Desk.commit.Goals as goal

pub invariant_of-self : goal.invariant_of-self
invariant_of-self g c =
    keeps_name g.P.Problem.branches g.P.Problem.seen g.P.Problem.is_own g.J.TreeName.problem g.J.TreeName.root g.J.TreeName.budget g.J.TreeName.workers c.args.problem.now c.self.inside.tree
    c.commit_for.new.tree c.requires.problem c.self.invariant (λ root of. c.commit_for.ensures.tree root g.J.TreeName.budget g.J.TreeName.workers c.requires.seat of)
