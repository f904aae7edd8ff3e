use Rattle.std.proofs.Common.{◌∙◌, arith}
use Rattle.tree_marks.proofs.Entries.{children_stand}
use Rattle.tree_marks.proofs.ChildFlags.{next_below, all_below}
use Rattle.tree_marks.proofs.spread.drop_below.Goals as goal

pub drop_range-requires : goal.drop_range-requires
drop_range-requires c =
    let stand = children_stand c.args.shape.now.shape c.requires.shape c.args.node _ _ _ c.children-first.ensures in
    omega (arith, stand, c.loop-alternative.invariant.done.fades.size, c.requires.size)

pub loop-alternative-preserved : goal.loop-alternative-preserved
loop-alternative-preserved c = record {
  done = next_below c.args.shape.now.shape c.args.relevance.now.fading c.loop-alternative.relevance.fading _ c.args.node c.loop-alternative.alternative _ _ c.loop-alternative.invariant.done c.children-first.ensures
      c.drop_range.ensures.fades c.drop_range.ensures.inside;
  spare = c.drop_range.ensures.spare ∙ c.loop-alternative.invariant.spare;
}

pub returns-clause-below : goal.returns-clause-below
returns-clause-below c = all_below c.args.shape.now.shape c.args.relevance.now.fading c.loop-alternative.relevance.fading c.args.node c.in-Some.width c.loop-alternative.alternative c.in-Some.ensures (omega arith)
    c.loop-alternative.invariant.done
