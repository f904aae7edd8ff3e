use Rattle.std.proofs.Common.{sym, ap, subst, ◌∙◌, length, arith}
use Rattle.tree_marks.specs.Fading.{IsSpread}
use Rattle.tree_marks.proofs.Fallen.{taken_waits, taken_stands}
use Rattle.tree_marks.proofs.Spreading.{worked}
use Rattle.tree_marks.proofs.spread.work_off.Goals as goal

pub drop_below-requires-clause-stands : goal.drop_below-requires-clause-stands
drop_below-requires-clause-stands c =
    let within = taken_stands c.loop-node.relevance.fading c.take_pending.new.self.fading c.in-Some.node c.in-Some.ensures.some c.loop-node.invariant.waiting in
    omega (arith, within, c.loop-node.invariant.size, c.requires.size)

pub loop-node-preserved : goal.loop-node-preserved
loop-node-preserved c =
    let old = c.loop-node.relevance.fading in
    let taken = c.take_pending.new.self.fading in
    record {
      spread = λ proved stuck h. worked c.args.shape.now.shape c.requires.shape proved stuck old taken _ c.in-Some.node c.in-Some.ensures.some c.in-Some.ensures.flags c.drop_below.ensures.fades c.drop_below.ensures.below
          (c.loop-node.invariant.spread proved stuck h);
      waiting = taken_waits old taken _ c.in-Some.node _ c.in-Some.ensures.some c.in-Some.ensures.flags c.drop_below.ensures.fades c.loop-node.invariant.waiting;
      size = c.drop_below.ensures.fades.size ∙ (ap length c.in-Some.ensures.flags ∙ c.loop-node.invariant.size);
      spare = c.drop_below.ensures.spare ∙ (c.in-Some.ensures.spare ∙ c.loop-node.invariant.spare);
    }

pub returns-clause-spread : goal.returns-clause-spread
returns-clause-spread c = λ proved stuck h. subst (IsSpread c.args.shape.now.shape proved stuck) (sym c.in_default.ensures.none) (c.loop-node.invariant.spread proved stuck h)
