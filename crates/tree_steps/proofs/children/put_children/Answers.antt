use Rattle.std.proofs.Common.{suc, ◌∙◌, sym, ap, subst, arith, sum, take, drop, All}
use Rattle.tree_queue.specs.Orders.{IsPlaced}
use Rattle.tree_steps.specs.Children.{widths, children_of}
use Rattle.tree_steps.proofs.ChildEntries.{about, widths_about, widths_more, branch_placed, branch_put}
use Rattle.tree_steps.proofs.children.put_children.Goals as goal

pub overflow_cast-count : goal.overflow_cast-count
overflow_cast-count g c =
    let fits = widths_about c.as_slice-branch-items.result.now c.loop-branch.branch-index c.branch-item.result c.loop-branch-test.true c.branch-item.is in
    omega (arith, fits, ap (λ bs. sum (widths bs)) c.as_slice-branch-items.ensures.value, c.requires.numbers, c.len-count.ensures, c.branch-item.result.nodes.ok.0, c.len-end.ensures.count, c.len-end.type_inv)

pub put_alike-requires-clause-room : goal.put_alike-requires-clause-room
put_alike-requires-clause-room g c =
    let fits = widths_about c.as_slice-branch-items.result.now c.loop-branch.branch-index c.branch-item.result c.loop-branch-test.true c.branch-item.is in
    omega (arith, fits, ap (λ bs. sum (widths bs)) c.as_slice-branch-items.ensures.value, c.requires.room, c.loop-branch.invariant.spare, c.len-count.ensures, c.branch-item.result.nodes.ok.0)

pub put_alike-requires-clause-numbers : goal.put_alike-requires-clause-numbers
put_alike-requires-clause-numbers g c =
    let fits = widths_about c.as_slice-branch-items.result.now c.loop-branch.branch-index c.branch-item.result c.loop-branch-test.true c.branch-item.is in
    omega (arith, fits, ap (λ bs. sum (widths bs)) c.as_slice-branch-items.ensures.value, c.requires.numbers, c.loop-branch.invariant.next, c.len-count.ensures, c.branch-item.result.nodes.ok.0)

pub put_alike-requires-clause-placed : goal.put_alike-requires-clause-placed
put_alike-requires-clause-placed g c =
    let xs = c.as_slice-branch-items.result.now in
    let i = c.loop-branch.branch-index in
    let b = c.branch-item.result in
    let P = IsPlaced c.args.shape.now.shape in
    let placed = subst (λ bs. All P (children_of c.args.first c.args.parent.depth c.args.parent.priority bs)) (sym c.as_slice-branch-items.ensures.value) c.requires.placed in
    rw (c.loop-branch.invariant.next, c.share.ensures, c.len-count.ensures ∙ b.nodes.ok.0)
    (branch_placed c.args.parent.depth c.args.parent.priority P c.args.first (take i xs) b (drop (suc i) xs) xs (about xs i b c.loop-branch-test.true c.branch-item.is) placed)

pub overflow_add-next : goal.overflow_add-next
overflow_add-next g c =
    let fits = widths_about c.as_slice-branch-items.result.now c.loop-branch.branch-index c.branch-item.result c.loop-branch-test.true c.branch-item.is in
    omega (arith, fits, ap (λ bs. sum (widths bs)) c.as_slice-branch-items.ensures.value, c.requires.numbers, c.loop-branch.invariant.next, c.len-count.ensures, c.branch-item.result.nodes.ok.0, c.len-end.ensures.count, c.len-end.type_inv)

pub loop-branch-preserved : goal.loop-branch-preserved
loop-branch-preserved g c =
    let xs = c.as_slice-branch-items.result.now in
    let i = c.loop-branch.branch-index in
    let b = c.branch-item.result in
    let before = c.loop-branch.invariant in
    let more = widths_more xs i b c.loop-branch-test.true c.branch-item.is in
    record {
      queue = c.put_alike.ensures.queue;
      next = omega (arith, more, before.next, c.len-count.ensures, b.nodes.ok.0);
      put = branch_put c.args.parent.depth c.args.parent.priority c.args.first xs i b c.args.queue.now.entries c.loop-branch.queue.entries c.put_alike.new.queue.entries c.loop-branch-test.true c.branch-item.is before.put
          (rw (c.loop-branch.invariant.next, c.share.ensures, c.len-count.ensures ∙ b.nodes.ok.0) at c.put_alike.ensures.put);
      spare = omega (arith, more, before.spare, c.put_alike.ensures.spare, c.len-count.ensures, b.nodes.ok.0);
    }
