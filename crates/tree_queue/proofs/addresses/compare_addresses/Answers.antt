use Rattle.std.proofs.Common.{◌≡◌, ◌∙◌, sym, ap, arith, Some}
use Rattle.std.specs.Ordering.{ordering_then, nat_cmp}
use Rattle.std.proofs.lemmas.Cmp.{tied_itself}
use Rattle.tree_runs.specs.Shapes.{above_at}
use Rattle.tree_runs.specs.Addresses.{address_of}
use Rattle.tree_runs.specs.Best.{step_cmp}
use Rattle.tree_queue.proofs.EntryOrder.{address_cmp_total}
use Rattle.tree_queue.proofs.AddressLemmas.{alike_at_root, alike_at_root_back, cmp_below_one, cmp_below_two, depth_above, above_is_smaller}
use Rattle.tree_queue.proofs.addresses.compare_addresses.Goals as goal

pub returns-in_default : goal.returns-in_default
returns-in_default c =
    let before = c.loop-a.invariant in
    sym (before.same ∙ alike_at_root_back c.args.shape.now.shape c.loop-a.a c.loop-a.b (sym c.above-in-loop-a.ensures ∙ c.in_default.is-1) before.depth)

pub returns-in_default-2 : goal.returns-in_default-2
returns-in_default-2 c =
    let before = c.loop-a.invariant in
    sym (before.same ∙ alike_at_root c.args.shape.now.shape c.loop-a.a c.loop-a.b (sym c.above.ensures ∙ c.in_default.is-0) before.depth)

pub returns-then-x-y : goal.returns-then-x-y
returns-then-x-y c =
    let before = c.loop-a.invariant in
    let x = c.in-Some-Some.x in
    let y = c.in-Some-Some.y in
    let at_a : above_at c.args.shape.now.shape c.loop-a.a ≡ Some x = sym c.above.ensures ∙ c.in-Some-Some.is-0 in
    let at_b : above_at c.args.shape.now.shape c.loop-a.b ≡ Some y = sym c.above-in-loop-a.ensures ∙ c.in-Some-Some.is-1 in
    let below = cmp_below_one c.args.shape.now.shape c.requires.shape c.loop-a.a c.loop-a.b x y at_a at_b c.if-x-y.true in
    let steps : c.then.result ≡ step_cmp (x.1, x.2) (y.1, y.2) = c.then.ensures ∙ (ap (λ o. ordering_then o c.cmp-then-x-y.result) c.cmp.ensures ∙ ap (ordering_then (nat_cmp x.1 y.1)) c.cmp-then-x-y.ensures) in
    steps ∙ sym (before.same ∙ below)

pub loop-a-smaller : goal.loop-a-smaller
loop-a-smaller c = above_is_smaller c.args.shape.now.shape c.requires.shape c.loop-a.a c.in-Some-Some.x (sym c.above.ensures ∙ c.in-Some-Some.is-0)

pub loop-a-preserved : goal.loop-a-preserved
loop-a-preserved c =
    let before = c.loop-a.invariant in
    let shape = c.args.shape.now.shape in
    let x = c.in-Some-Some.x in
    let y = c.in-Some-Some.y in
    let at_a : above_at shape c.loop-a.a ≡ Some x = sym c.above.ensures ∙ c.in-Some-Some.is-0 in
    let at_b : above_at shape c.loop-a.b ≡ Some y = sym c.above-in-loop-a.ensures ∙ c.in-Some-Some.is-1 in
    let lower_a = above_is_smaller shape c.requires.shape c.loop-a.a x at_a in
    let lower_b = above_is_smaller shape c.requires.shape c.loop-a.b y at_b in
    record {
      first = omega (arith, lower_a, before.first);
      second = omega (arith, lower_b, before.second);
      depth = depth_above shape c.requires.shape c.loop-a.a c.loop-a.b x y at_a at_b before.depth;
      same = before.same ∙ cmp_below_two shape c.requires.shape c.loop-a.a c.loop-a.b x y before.first before.second at_a at_b before.depth c.if-x-y.false;
    }

pub returns : goal.returns
returns c =
    let before = c.loop-a.invariant in
    sym (before.same ∙ rw c.loop-a-test.false (tied_itself address_cmp_total (address_of c.args.shape.now.shape c.loop-a.b)))
