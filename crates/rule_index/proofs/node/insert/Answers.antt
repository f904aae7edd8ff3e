use Rattle.std.proofs.Common.{get_or, None}
use Rattle.std.proofs.lemmas.Result.{on_ok_weaker}
use Rattle.rule_index.proofs.Nodes.{nodes_stay, nodes_then, way_begins, way_goes_on, way_ends}
use Rattle.rule_index.proofs.node.insert.Goals as goal

pub loop-part-init : goal.loop-part-init
loop-part-init c = record { grows = nodes_stay c.args.nodes.now.items; within = c.requires.within; closed = c.requires.closed; on_the_way = way_begins c.args.nodes.now.items c.args.root c.args.parts.now c.args.place }

pub returns-in_err-number-clause-grows : goal.returns-in_err-number-clause-grows
returns-in_err-number-clause-grows c = nodes_then c.args.nodes.now.items c.loop-part.nodes.items c.below.new.nodes.items c.loop-part.invariant.grows c.below.ensures.grows

pub loop-part-preserved : goal.loop-part-preserved
loop-part-preserved c = record {
  grows = nodes_then c.args.nodes.now.items c.loop-part.nodes.items c.below.new.nodes.items c.loop-part.invariant.grows c.below.ensures.grows;
  within = c.below.ensures.closed c.loop-part.number (get_or c.args.parts.now c.loop-part.part-index None) c.in_ok-number.number c.in_ok-number.ensures.ok;
  closed = c.below.ensures.closed;
  on_the_way = way_goes_on c.loop-part.nodes.items c.below.new.nodes.items c.args.root c.args.parts.now c.args.place c.loop-part.part-index c.loop-part.number c.in_ok-number.number
      c.loop-part.invariant.on_the_way c.loop-part-test.true c.below.ensures.grows c.in_ok-number.ensures.ok;
}

pub returns-clause-grows : goal.returns-clause-grows
returns-clause-grows c = nodes_then c.args.nodes.now.items c.loop-part.nodes.items c.put.new.nodes.items c.loop-part.invariant.grows c.put.ensures.grows

pub returns-clause-ok : goal.returns-clause-ok
returns-clause-ok c =
    on_ok_weaker c.put.result
    (way_ends c.loop-part.nodes.items c.put.new.nodes.items c.args.root c.args.parts.now c.args.place c.loop-part.part-index c.loop-part.number c.loop-part.invariant.on_the_way c.loop-part-test.false c.put.ensures.grows)
    c.put.ensures.ok
