use Rattle.std.proofs.Common.{◌≡◌, ◌∙◌, ◌∷◌, ◌++◌, [], List, refl, sym, ap, arith, length, sum, length-append, append_assoc, append-nil}
use Rattle.std.specs.Vec.Iter.{into_iter_items}
use Rattle.tree_runs.proofs.Shapes.{sum-cons}
use Rattle.tree_steps.specs.Children.{nodes_made, widths}
use Rattle.tree_steps.proofs.children.move_nodes.Goals as goal

none_left : {A : Type 0} (xs : List A) → length xs ≡ 0 → xs ≡ []
none_left [] e = refl
none_left (x ∷ xs) e = absurd (omega (arith, e))

pub append_nodes-requires : goal.append_nodes-requires
append_nodes-requires g c =
    let left = into_iter_items c.next.new.self in
    omega (arith, c.loop-branch.invariant.room, ap (λ bs. sum (widths bs)) c.in-Some.ensures.steps.0, sum-cons (length c.in-Some.branch.nodes.items) (widths left))

pub loop-branch-preserved : goal.loop-branch-preserved
loop-branch-preserved g c =
    let before = c.loop-branch.invariant in
    let left = into_iter_items c.next.new.self in
    let steps = c.in-Some.ensures.steps.0 in
    let items = c.append_nodes.ensures.items in
    record {
      room = omega (arith, before.room, ap (λ bs. sum (widths bs)) steps, sum-cons (length c.in-Some.branch.nodes.items) (widths left), ap length items, length-append c.loop-branch.others.items c.in-Some.branch.nodes.items, c.append_nodes.ensures.capacity);
      items = ap (λ ns. ns ++ nodes_made left) items ∙ (append_assoc c.loop-branch.others.items c.in-Some.branch.nodes.items (nodes_made left) ∙ (ap (λ bs. c.loop-branch.others.items ++ nodes_made bs) (sym steps) ∙ before.items));
      count = omega (arith, before.count, ap length steps, c.in-Some.ensures.steps.1);
    }

pub returns : goal.returns
returns g c =
    let before = c.loop-branch.invariant in
    let none = none_left (into_iter_items c.loop-branch.branch-iterator) (sym before.count ∙ c.in-None.ensures.steps.0) in
    sym (append-nil c.loop-branch.others.items) ∙ (ap (λ bs. c.loop-branch.others.items ++ nodes_made bs) (sym none) ∙ before.items)
