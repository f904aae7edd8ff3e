use Rattle.std.proofs.Common.{arith, refl}
use Rattle.tree_tests.proofs.Plays.{has_alternatives}
use Rattle.tree_tests.proofs.play.Play.commit.Goals as goal

pub children_of-requires : goal.children_of-requires
children_of-requires g c = λ alternative within.
    has_alternatives (g.P.Problem.branches c.self.inside.problem) (g.P.Problem.seen c.self.inside.problem) (g.P.Problem.is_own c.self.inside.problem) c.self.inside.tree c.commit.new.self c.commit.ensures.root
    c.self.invariant.0 c.commit.ensures.tree c.args.seat c.in-Some.node _ (g.P.Problem.seen c.self.inside.problem c.in-Some-content_of.content.now) c.in-Ok.ensures.ok (c.if-not-holds.ensures.0 refl)
    c.in_ok-branches.branches c.in_ok-branches.ensures.branches alternative (omega (arith, within, c.len-width.ensures, c.in_ok-branches.branches.alternatives.ok.0))
