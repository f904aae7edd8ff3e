use Rattle.std.proofs.Common.{sym, ap, ◌∙◌, arith, length, map}
use Rattle.std.specs.Vec.Iter.{into_iter_items}
use Rattle.proof_replay.specs.Putting.{seen_final, all_again}
use Rattle.proof_replay.proofs.Places.{none_left}
use Rattle.proof_replay.proofs.putting.put_all.Goals as goal

pub loop-last-preserved : goal.loop-last-preserved
loop-last-preserved c =
    let before = c.loop-last.invariant in
    let left = into_iter_items c.next.new.self in
    let steps = c.in-Some.ensures.steps.0 in
    record {
      items = ap (λ fs. all_again fs (map seen_final left)) c.in_ok-put.ensures.ok ∙ ap (λ ls. all_again c.loop-last.finals (map seen_final ls)) (sym steps) ∙ before.items;
      count = omega (arith, before.count, ap length steps, c.in-Some.ensures.steps.1);
    }

pub returns : goal.returns
returns c =
    let before = c.loop-last.invariant in
    let none = none_left (into_iter_items c.loop-last.last-iterator) (sym before.count ∙ c.in-None.ensures.steps.0) in
    ap (λ ls. all_again c.loop-last.finals (map seen_final ls)) (sym none) ∙ before.items
