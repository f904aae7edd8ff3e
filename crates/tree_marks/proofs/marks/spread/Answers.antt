use Rattle.std.proofs.Common.{◌∙◌, arith}
use Rattle.tree_marks.proofs.Settling.{ends}
use Rattle.tree_marks.proofs.Knowing.{same_runs, knows_everywhere}
use Rattle.tree_marks.proofs.Spreading.{spread_is_fresh}
use Rattle.tree_marks.proofs.marks.spread.Goals as goal

pub climb-requires : goal.climb-requires
climb-requires c = record {
  shape = c.requires.begins.is_shape;
  proved_size = omega arith;
  stuck_size = omega arith;
  relevance_size = c.drop_new.ensures.size ∙ c.requires.relevance_size;
  stands = c.requires.stands;
  others = c.requires.begins.local;
  known_size = omega arith;
  unproved = c.requires.knows.unproved;
  unstuck = c.requires.knows.unstuck;
  knows_proved = same_runs _ _ _ c.begin_passing.ensures.run c.requires.knows.knows_proved;
  knows_stuck = knows_everywhere c.args.shape.now.shape c.args.stuck.now c.args.known.now _ c.args.node c.begin_passing.ensures.knows c.begin_passing.ensures.others c.requires.knows.knows_stuck;
  spread = c.drop_new.ensures.spread c.args.proved.now c.args.stuck.now c.requires.begins c.requires.knows.unproved c.requires.knows.unstuck;
}

pub work_off-requires : goal.work_off-requires
work_off-requires c = record {
  shape = c.requires.begins.is_shape;
  size = c.climb.ensures.relevance_size ∙ (c.drop_new.ensures.size ∙ c.requires.relevance_size);
  waiting = c.climb.ensures.spread.waiting;
}

pub returns-clause-settled : goal.returns-clause-settled
returns-clause-settled c =
    let spread = c.work_off.ensures.spread _ _ c.climb.ensures.spread in
    ends c.args.shape.now.shape c.requires.begins.is_shape _ _ _ _ (omega arith) (omega arith)
    (c.work_off.ensures.size ∙ (c.climb.ensures.relevance_size ∙ (c.drop_new.ensures.size ∙ c.requires.relevance_size)))
    c.climb.ensures.local (spread_is_fresh c.args.shape.now.shape _ _ _ c.work_off.ensures.idle spread) spread.root
    (omega arith) c.climb.ensures.knows_proved c.climb.ensures.knows_stuck
