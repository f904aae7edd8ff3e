use Rattle.std.proofs.Common.{refl, arith}
use Rattle.tree_steps.proofs.Growing.{roomier}
use Rattle.tree_steps.proofs.tree.Tree.reserve_room.Goals as goal

pub returns-in_err-reserve-clause-tree : goal.returns-in_err-reserve-clause-tree
returns-in_err-reserve-clause-tree g c =
    roomier (g.P.Problem.branches c.args.problem.now) (g.P.Problem.seen c.args.problem.now) (g.P.Problem.is_own c.args.problem.now) c.args.self.now _ (record { root = refl; others = refl; shape = refl; marks = refl; commits = refl; budget = refl }) c.reserve.ensures.same refl refl (omega arith) c.reserve.ensures.spare c.requires.tree

pub returns-in_err-reserve-2-clause-tree : goal.returns-in_err-reserve-2-clause-tree
returns-in_err-reserve-2-clause-tree g c =
    roomier (g.P.Problem.branches c.args.problem.now) (g.P.Problem.seen c.args.problem.now) (g.P.Problem.is_own c.args.problem.now) c.args.self.now _ (record { root = refl; others = refl; shape = c.reserve-2.ensures.shape; marks = refl; commits = refl; budget = refl }) c.reserve.ensures.same refl refl (omega arith) c.reserve.ensures.spare c.requires.tree

pub returns-in_err-reserve-3-clause-tree : goal.returns-in_err-reserve-3-clause-tree
returns-in_err-reserve-3-clause-tree g c =
    roomier (g.P.Problem.branches c.args.problem.now) (g.P.Problem.seen c.args.problem.now) (g.P.Problem.is_own c.args.problem.now) c.args.self.now _ (record { root = refl; others = refl; shape = c.reserve-2.ensures.shape; marks = c.reserve-3.ensures.marks; commits = refl; budget = refl }) c.reserve.ensures.same refl refl (omega arith) c.reserve.ensures.spare c.requires.tree

pub returns-in_err-reserve-4-clause-tree : goal.returns-in_err-reserve-4-clause-tree
returns-in_err-reserve-4-clause-tree g c =
    roomier (g.P.Problem.branches c.args.problem.now) (g.P.Problem.seen c.args.problem.now) (g.P.Problem.is_own c.args.problem.now) c.args.self.now _ (record { root = refl; others = refl; shape = c.reserve-2.ensures.shape; marks = c.reserve-3.ensures.marks; commits = refl; budget = refl }) c.reserve.ensures.same refl c.reserve-4.ensures.entries c.reserve-4.ensures.spare c.reserve.ensures.spare c.requires.tree

pub returns-in_err-reserve-5-clause-tree : goal.returns-in_err-reserve-5-clause-tree
returns-in_err-reserve-5-clause-tree g c =
    roomier (g.P.Problem.branches c.args.problem.now) (g.P.Problem.seen c.args.problem.now) (g.P.Problem.is_own c.args.problem.now) c.args.self.now _ (record { root = refl; others = c.reserve-5.ensures.items; shape = c.reserve-2.ensures.shape; marks = c.reserve-3.ensures.marks; commits = refl; budget = refl }) c.reserve.ensures.same refl c.reserve-4.ensures.entries c.reserve-4.ensures.spare c.reserve.ensures.spare c.requires.tree

pub returns-clause-tree : goal.returns-clause-tree
returns-clause-tree g c =
    roomier (g.P.Problem.branches c.args.problem.now) (g.P.Problem.seen c.args.problem.now) (g.P.Problem.is_own c.args.problem.now) c.args.self.now _ (record { root = refl; others = c.reserve-5.ensures.items; shape = c.reserve-2.ensures.shape; marks = c.reserve-3.ensures.marks; commits = refl; budget = refl }) c.reserve.ensures.same refl c.reserve-4.ensures.entries c.reserve-4.ensures.spare c.reserve.ensures.spare c.requires.tree
