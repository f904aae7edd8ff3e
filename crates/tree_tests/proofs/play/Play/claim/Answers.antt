use Rattle.tree_tests.proofs.play.Play.claim.Goals as goal

pub claim-requires-clause-idle : goal.claim-requires-clause-idle
claim-requires-clause-idle g c = c.in-None.ensures.state c.self.inside.problem c.self.invariant.0

pub invariant_of-self : goal.invariant_of-self
invariant_of-self g c = (c.claim.ensures.tree, c.self.invariant.1)

pub invariant_of-self-in_err-kept-in-Take : goal.invariant_of-self-in_err-kept-in-Take
invariant_of-self-in_err-kept-in-Take g c = (c.claim.ensures.tree, c.self.invariant.1)

pub invariant_of-self-in_default : goal.invariant_of-self-in_default
invariant_of-self-in_default g c = (c.claim.ensures.tree, c.self.invariant.1)
