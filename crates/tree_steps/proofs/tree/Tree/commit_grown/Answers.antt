use Rattle.std.proofs.Common.{◌≡◌, ◌==◌, ◌&&◌, ◌∙◌, ◌++◌, ◌∷◌, [], sym, ap, subst, refl, true, arith, sum}
use Rattle.std.specs.List.{list_any, Contains}
use Rattle.tree_runs.specs.Shapes.{nodes_count, grow}
use Rattle.tree_runs.specs.States.{commit}
use Rattle.tree_steps.proofs.Holdings.{some_there}
use Rattle.tree_steps.proofs.Growing.{count_grown, stands, ungrown, settled_before, queue_now, depth_low, percents, children_placed, is_tree_after}
use Rattle.tree_steps.proofs.tree.Tree.commit_grown.Goals as goal

pub held_entry-entry-requires : goal.held_entry-entry-requires
held_entry-entry-requires g c =
    let seat = c.args.seat in
    let node = c.args.node in
    let some = some_there seat node c.args.self.now.held.items (subst (λ ps. list_any (λ pair. pair.0 == seat && pair.1 == node) ps ≡ true) (sym c.requires.tree.shows.held) c.requires.holds) in
    subst (λ hs. list_any (λ holding. holding.seat == seat) hs ≡ true) (sym c.as_slice.ensures.value) some

pub grow-requires-clause-stands : goal.grow-requires-clause-stands
grow-requires-clause-stands g c =
    let there = subst (λ hs. Contains hs (record { seat = c.args.seat; entry = c.held_entry-entry.result })) c.as_slice.ensures.value c.held_entry-entry.ensures in
    stands (g.P.Problem.branches c.args.problem.now) (g.P.Problem.seen c.args.problem.now) (g.P.Problem.is_own c.args.problem.now) c.args.self.now c.requires.tree c.args.seat c.args.node c.held_entry-entry.result there c.requires.holds c.args.branches.alternatives.items c.requires.branches

pub grow-requires-clause-ungrown : goal.grow-requires-clause-ungrown
grow-requires-clause-ungrown g c =
    let there = subst (λ hs. Contains hs (record { seat = c.args.seat; entry = c.held_entry-entry.result })) c.as_slice.ensures.value c.held_entry-entry.ensures in
    ungrown (g.P.Problem.branches c.args.problem.now) (g.P.Problem.seen c.args.problem.now) (g.P.Problem.is_own c.args.problem.now) c.args.self.now c.requires.tree c.args.seat c.args.node c.held_entry-entry.result there c.requires.holds c.args.branches.alternatives.items c.requires.branches

pub settle-requires-clause-grown : goal.settle-requires-clause-grown
settle-requires-clause-grown g c =
    let there = subst (λ hs. Contains hs (record { seat = c.args.seat; entry = c.held_entry-entry.result })) c.as_slice.ensures.value c.held_entry-entry.ensures in
    record {
      before = c.args.self.now.shape.shape;
      counts = c.args.counts.now;
      settled = settled_before (g.P.Problem.branches c.args.problem.now) (g.P.Problem.seen c.args.problem.now) (g.P.Problem.is_own c.args.problem.now) c.args.self.now c.requires.tree c.args.seat c.args.node c.held_entry-entry.result there c.requires.holds c.args.branches.alternatives.items c.requires.branches;
      stands = stands (g.P.Problem.branches c.args.problem.now) (g.P.Problem.seen c.args.problem.now) (g.P.Problem.is_own c.args.problem.now) c.args.self.now c.requires.tree c.args.seat c.args.node c.held_entry-entry.result there c.requires.holds c.args.branches.alternatives.items c.requires.branches;
      ungrown = ungrown (g.P.Problem.branches c.args.problem.now) (g.P.Problem.seen c.args.problem.now) (g.P.Problem.is_own c.args.problem.now) c.args.self.now c.requires.tree c.args.seat c.args.node c.held_entry-entry.result there c.requires.holds c.args.branches.alternatives.items c.requires.branches;
      grown = c.grow.ensures.shape;
    }

pub settle-requires-clause-room : goal.settle-requires-clause-room
settle-requires-clause-room g c =
    let there = subst (λ hs. Contains hs (record { seat = c.args.seat; entry = c.held_entry-entry.result })) c.as_slice.ensures.value c.held_entry-entry.ensures in
    let settled = settled_before (g.P.Problem.branches c.args.problem.now) (g.P.Problem.seen c.args.problem.now) (g.P.Problem.is_own c.args.problem.now) c.args.self.now c.requires.tree c.args.seat c.args.node c.held_entry-entry.result there c.requires.holds c.args.branches.alternatives.items c.requires.branches in
    omega (arith, ap nodes_count c.grow.ensures.shape, count_grown c.args.self.now.shape.shape c.args.node c.args.counts.now, settled.proved_size, c.requires.room.marks)

pub put_children-requires-clause-queue : goal.put_children-requires-clause-queue
put_children-requires-clause-queue g c =
    let there = subst (λ hs. Contains hs (record { seat = c.args.seat; entry = c.held_entry-entry.result })) c.as_slice.ensures.value c.held_entry-entry.ensures in
    queue_now (g.P.Problem.branches c.args.problem.now) (g.P.Problem.seen c.args.problem.now) (g.P.Problem.is_own c.args.problem.now) c.args.self.now c.requires.tree c.args.seat c.args.node c.held_entry-entry.result there c.requires.holds c.args.branches.alternatives.items c.requires.branches c.grow.new.self.shape (c.grow.ensures.shape ∙ ap (grow c.args.self.now.shape.shape c.args.node) c.requires.counts)

pub put_children-requires-clause-numbers : goal.put_children-requires-clause-numbers
put_children-requires-clause-numbers g c = omega (arith, ap nodes_count c.grow.ensures.shape, count_grown c.args.self.now.shape.shape c.args.node c.args.counts.now, ap sum c.requires.counts, c.len-first.ensures.count)

pub put_children-requires-clause-percentages : goal.put_children-requires-clause-percentages
put_children-requires-clause-percentages g c =
    let there = subst (λ hs. Contains hs (record { seat = c.args.seat; entry = c.held_entry-entry.result })) c.as_slice.ensures.value c.held_entry-entry.ensures in
    percents (g.P.Problem.branches c.args.problem.now) (g.P.Problem.seen c.args.problem.now) (g.P.Problem.is_own c.args.problem.now) c.args.self.now c.requires.tree c.args.seat c.args.node c.held_entry-entry.result there c.requires.holds c.args.branches.alternatives.items c.requires.branches (g.met.P.Problem.percentages c.args.problem.now)

pub put_children-requires-clause-depth : goal.put_children-requires-clause-depth
put_children-requires-clause-depth g c =
    let there = subst (λ hs. Contains hs (record { seat = c.args.seat; entry = c.held_entry-entry.result })) c.as_slice.ensures.value c.held_entry-entry.ensures in
    let low = depth_low (g.P.Problem.branches c.args.problem.now) (g.P.Problem.seen c.args.problem.now) (g.P.Problem.is_own c.args.problem.now) c.args.self.now c.requires.tree c.args.seat c.args.node c.held_entry-entry.result there c.requires.holds c.args.branches.alternatives.items c.requires.branches in
    omega (arith, low, c.len-first.ensures.count, c.len-first.type_inv)

pub put_children-requires-clause-placed : goal.put_children-requires-clause-placed
put_children-requires-clause-placed g c =
    let there = subst (λ hs. Contains hs (record { seat = c.args.seat; entry = c.held_entry-entry.result })) c.as_slice.ensures.value c.held_entry-entry.ensures in
    children_placed (g.P.Problem.branches c.args.problem.now) (g.P.Problem.seen c.args.problem.now) (g.P.Problem.is_own c.args.problem.now) c.args.self.now c.requires.tree c.args.seat c.args.node c.held_entry-entry.result there c.requires.holds c.args.branches.alternatives.items c.requires.branches c.grow.new.self.shape (c.grow.ensures.shape ∙ ap (grow c.args.self.now.shape.shape c.args.node) c.requires.counts) c.len-first.result c.len-first.ensures.count

pub returns-clause-tree : goal.returns-clause-tree
returns-clause-tree g c =
    let there = subst (λ hs. Contains hs (record { seat = c.args.seat; entry = c.held_entry-entry.result })) c.as_slice.ensures.value c.held_entry-entry.ensures in
    is_tree_after (g.P.Problem.branches c.args.problem.now) (g.P.Problem.seen c.args.problem.now) (g.P.Problem.is_own c.args.problem.now) c.args.self.now c.requires.tree c.args.seat c.args.node c.held_entry-entry.result there c.requires.holds c.args.branches.alternatives.items c.requires.branches _ (record {
      root = refl;
      budget = refl;
      commits = refl;
      events = c.add_commit.ensures.events ∙ ap (λ cs. c.args.self.now.journal.events ++ commit c.args.seat c.args.node cs ∷ []) c.requires.counts;
      held = c.drop_seat.ensures;
      shape = c.grow.ensures.shape ∙ ap (grow c.args.self.now.shape.shape c.args.node) c.requires.counts;
      marks = c.settle.ensures.settled;
      others = c.move_nodes.ensures;
      made_own = c.requires.own;
      ordered = c.put_children.ensures.queue;
      first = c.len-first.result;
      first_is = c.len-first.ensures.count;
      put = c.put_children.ensures.put;
      queue_room = omega (arith, c.put_children.ensures.spare, c.requires.room.queue, ap sum c.requires.counts);
      journal_room = c.add_commit.ensures.spare;
    })
