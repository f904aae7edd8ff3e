use Rattle.tree_shared.proofs.Naming.{keeps_name}
use Rattle.tree_shared.proofs.desk.Desk.claim.Goals as goal

pub invariant_of-self : goal.invariant_of-self
invariant_of-self g c =
    keeps_name g.P.Problem.branches g.P.Problem.seen g.P.Problem.is_own g.J.TreeName.problem g.J.TreeName.root g.J.TreeName.budget g.J.TreeName.workers c.args.problem.now c.self.inside.tree
    c.claim_for.new.tree c.requires.problem c.self.invariant (λ root of. c.claim_for.ensures.tree root g.J.TreeName.budget g.J.TreeName.workers c.requires.seat of)

pub invariant_of-self-in-Take : goal.invariant_of-self-in-Take
invariant_of-self-in-Take g c =
    keeps_name g.P.Problem.branches g.P.Problem.seen g.P.Problem.is_own g.J.TreeName.problem g.J.TreeName.root g.J.TreeName.budget g.J.TreeName.workers c.args.problem.now c.self.inside.tree
    c.claim_for.new.tree c.requires.problem c.self.invariant (λ root of. c.claim_for.ensures.tree root g.J.TreeName.budget g.J.TreeName.workers c.requires.seat of)

pub invariant_of-self-in-Decided : goal.invariant_of-self-in-Decided
invariant_of-self-in-Decided g c =
    keeps_name g.P.Problem.branches g.P.Problem.seen g.P.Problem.is_own g.J.TreeName.problem g.J.TreeName.root g.J.TreeName.budget g.J.TreeName.workers c.args.problem.now c.self.inside.tree
    c.claim_for.new.tree c.requires.problem c.self.invariant (λ root of. c.claim_for.ensures.tree root g.J.TreeName.budget g.J.TreeName.workers c.requires.seat of)

pub invariant_of-self-in-Spent-eq0 : goal.invariant_of-self-in-Spent-eq0
invariant_of-self-in-Spent-eq0 g c =
    keeps_name g.P.Problem.branches g.P.Problem.seen g.P.Problem.is_own g.J.TreeName.problem g.J.TreeName.root g.J.TreeName.budget g.J.TreeName.workers c.args.problem.now c.self.inside.tree
    c.claim_for.new.tree c.requires.problem c.self.invariant (λ root of. c.claim_for.ensures.tree root g.J.TreeName.budget g.J.TreeName.workers c.requires.seat of)

pub invariant_of-self-in-Spent : goal.invariant_of-self-in-Spent
invariant_of-self-in-Spent g c =
    keeps_name g.P.Problem.branches g.P.Problem.seen g.P.Problem.is_own g.J.TreeName.problem g.J.TreeName.root g.J.TreeName.budget g.J.TreeName.workers c.args.problem.now c.self.inside.tree
    c.claim_for.new.tree c.requires.problem c.self.invariant (λ root of. c.claim_for.ensures.tree root g.J.TreeName.budget g.J.TreeName.workers c.requires.seat of)

pub invariant_of-self-in-Idle : goal.invariant_of-self-in-Idle
invariant_of-self-in-Idle g c =
    keeps_name g.P.Problem.branches g.P.Problem.seen g.P.Problem.is_own g.J.TreeName.problem g.J.TreeName.root g.J.TreeName.budget g.J.TreeName.workers c.args.problem.now c.self.inside.tree
    c.claim_for.new.tree c.requires.problem c.self.invariant (λ root of. c.claim_for.ensures.tree root g.J.TreeName.budget g.J.TreeName.workers c.requires.seat of)
