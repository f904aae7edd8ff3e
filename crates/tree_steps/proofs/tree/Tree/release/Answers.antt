use Rattle.std.proofs.Common.{◌≡◌, ◌==◌, ◌&&◌, sym, subst, refl, true}
use Rattle.std.specs.List.{list_any, Contains}
use Rattle.tree_steps.specs.Trees.{state_of_tree}
use Rattle.tree_steps.proofs.Holdings.{entry_told, released, some_there, placed_of}
use Rattle.tree_steps.proofs.tree.Tree.release.Goals as goal

pub held_entry-entry-requires : goal.held_entry-entry-requires
held_entry-entry-requires g c =
    let state = state_of_tree (g.P.Problem.branches c.args.problem.now) (g.P.Problem.seen c.args.problem.now) (g.P.Problem.is_own c.args.problem.now) c.args.self.now in
    let seat = c.args.seat in
    let node = c.args.node in
    let some = some_there seat node c.args.self.now.held.items (subst (λ ps. list_any (λ pair. pair.0 == seat && pair.1 == node) ps ≡ true) (sym c.requires.tree.shows.held) c.requires.holds) in
    subst (λ hs. list_any (λ holding. holding.seat == seat) hs ≡ true) (sym c.as_slice.ensures.value) some

pub put-requires-clause-entry : goal.put-requires-clause-entry
put-requires-clause-entry g c =
    let state = state_of_tree (g.P.Problem.branches c.args.problem.now) (g.P.Problem.seen c.args.problem.now) (g.P.Problem.is_own c.args.problem.now) c.args.self.now in
    let there = subst (λ hs. Contains hs (record { seat = c.args.seat; entry = c.held_entry-entry.result })) c.as_slice.ensures.value c.held_entry-entry.ensures in
    placed_of state c.args.self.now.budget c.requires.tree.shows.regular c.args.self.now.shape.shape c.requires.tree.shows.shape c.held_entry-entry.result
    (entry_told (g.P.Problem.branches c.args.problem.now) (g.P.Problem.seen c.args.problem.now) (g.P.Problem.is_own c.args.problem.now) c.args.self.now c.requires.tree c.args.seat c.args.node c.held_entry-entry.result there c.requires.holds)

pub returns-clause-tree : goal.returns-clause-tree
returns-clause-tree g c =
    let there = subst (λ hs. Contains hs (record { seat = c.args.seat; entry = c.held_entry-entry.result })) c.as_slice.ensures.value c.held_entry-entry.ensures in
    released (g.P.Problem.branches c.args.problem.now) (g.P.Problem.seen c.args.problem.now) (g.P.Problem.is_own c.args.problem.now) c.args.self.now c.requires.tree c.args.seat c.args.node c.held_entry-entry.result there c.requires.holds _
    (record { root = refl; others = refl; shape = refl; marks = refl; commits = refl; budget = refl }) c.add_release.ensures.events c.drop_seat.ensures c.put.ensures.queue c.put.ensures.added c.put.ensures.spare c.add_release.ensures.spare
