use Rattle.std.proofs.Common.{◌∙◌, ◌∷◌, subst, refl, IsPermutation}
use Rattle.tree_steps.proofs.Starts.{root_entry, root_placed, tree_starts}
use Rattle.tree_steps.proofs.tree.Tree.start.Goals as goal

pub put-requires-clause-entry : goal.put-requires-clause-entry
put-requires-clause-entry g c = root_placed c.in_ok-shape.shape.shape c.in_ok-shape.ensures

pub returns-clause-tree : goal.returns-clause-tree
returns-clause-tree g c =
    tree_starts (g.P.Problem.branches c.args.problem.now) (g.P.Problem.seen c.args.problem.now) (g.P.Problem.is_own c.args.problem.now) _
    c.new-4.ensures c.new-3.ensures.items c.new-5.ensures.items c.in_ok-shape.ensures c.in_ok-marks.ensures c.requires.own refl (subst (λ es. IsPermutation (root_entry ∷ es) c.put.new.self.entries) (c.in_ok-reserve.ensures.entries ∙ c.new-queue.ensures) c.put.ensures.added) c.put.ensures.queue
