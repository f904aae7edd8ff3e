-- A step writes the marks of one node, so only the node above may fail to be local; irrelevance is spread from it, and what is known above is brought up to date.
use Rattle.std.proofs.Common.{◌∙◌, refl, sym, arith}
use Rattle.tree_runs.proofs.Marks.{above-rises}
use Rattle.tree_marks.proofs.Climbs.{written, other_parent, root_is_free}
use Rattle.tree_marks.proofs.Knowing.{above, decides, climbs_on, moved_before, moved_next, moved_unstuck, has_above, written_knows_proved, root_knows_stuck}
use Rattle.tree_marks.proofs.Spreading.{both}
use Rattle.tree_marks.proofs.climb.climb.Goals as goal

pub drop_around-requires : goal.drop_around-requires
drop_around-requires c = record {
  shape = c.requires.shape;
  proved_size = omega arith;
  stuck_size = omega arith;
  known_size = omega arith;
  size = c.up.invariant.size ∙ c.requires.relevance_size;
  stands = c.up.invariant.stands;
  knows = written_knows_proved c.up.proved _ c.up.known c.up.at c.up.is_proved (omega arith) c.put_flag.ensures c.up.invariant.climbing.proved_rises c.up.invariant.climbing.knows_proved;
}

pub is_proved_above-proved_above-requires : goal.is_proved_above-proved_above-requires
is_proved_above-proved_above-requires c =
    let a = above c.args.shape.now.shape c.requires.shape c.up.proved c.up.stuck _ _ c.up.known c.up.relevance.fading c.up.at _ c.up.is_proved c.up.is_stuck c.up.invariant.climbing
    (omega arith) (omega arith) c.put_flag.ensures c.put_flag-in-up.ensures (sym c.in-Some.ensures) in
    let rises = above-rises c.args.shape.now.shape c.requires.shape c.up.at _ (sym c.in-Some.ensures) in
    record {
      shape = c.requires.shape;
      proved_size = omega arith;
      known_size = omega arith;
      stands = omega (arith, rises);
      has = has_above c.args.shape.now.shape c.requires.shape c.up.at _ (sym c.in-Some.ensures);
      knows = a.knows_proved;
      proved = a.proved_rises;
      others = a.unproved;
    }

pub is_stuck_above-stuck_above-requires : goal.is_stuck_above-stuck_above-requires
is_stuck_above-stuck_above-requires c =
    let a = above c.args.shape.now.shape c.requires.shape c.up.proved c.up.stuck _ _ c.up.known c.up.relevance.fading c.up.at _ c.up.is_proved c.up.is_stuck c.up.invariant.climbing
    (omega arith) (omega arith) c.put_flag.ensures c.put_flag-in-up.ensures (sym c.in-Some.ensures) in
    let rises = above-rises c.args.shape.now.shape c.requires.shape c.up.at _ (sym c.in-Some.ensures) in
    record {
      shape = c.requires.shape;
      stuck_size = omega arith;
      known_size = omega arith;
      child = c.up.invariant.stands;
      stands = omega (arith, rises);
      before = moved_before c.args.shape.now.shape _ c.up.known _ c.in-Some.parent (c.is_proved_above-proved_above.ensures.passed c.in-Some.parent) (a.before c.in-Some.parent);
      next = moved_next c.args.shape.now.shape _ c.up.known _ c.in-Some.parent c.in-Some.alternative (c.is_proved_above-proved_above.ensures.passed c.in-Some.parent) a.next;
      unstuck = moved_unstuck c.args.shape.now.shape _ c.up.known _ c.up.at c.in-Some.parent (c.is_proved_above-proved_above.ensures.passed c.in-Some.parent) a.unstuck;
    }

pub up-init : goal.up-init
up-init c = record {
  stands = c.requires.stands;
  size = refl;
  spare = refl;
  climbing = record {
    others = c.requires.others;
    proved_is = c.has_proved_alternative-is_proved.ensures;
    stuck_is = c.has_only_stuck_alternatives-is_stuck.ensures;
    proved_rises = λ e. absurd (let unproved = c.requires.unproved in cc);
    stuck_rises = λ e. absurd (let unstuck = c.requires.unstuck in cc);
    knows_proved = c.requires.knows_proved;
    knows_stuck = c.requires.knows_stuck;
    spread = c.requires.spread;
  };
}

pub up-preserved : goal.up-preserved
up-preserved c =
    let a = above c.args.shape.now.shape c.requires.shape c.up.proved c.up.stuck _ _ c.up.known c.up.relevance.fading c.up.at _ c.up.is_proved c.up.is_stuck c.up.invariant.climbing
    (omega arith) (omega arith) c.put_flag.ensures c.put_flag-in-up.ensures (sym c.in-Some.ensures) in
    let d = decides c.args.shape.now.shape c.up.proved c.up.stuck _ _ c.up.known c.up.relevance.fading c.up.at c.up.is_proved c.up.is_stuck c.up.invariant.climbing
    (omega arith) (omega arith) c.put_flag.ensures c.put_flag-in-up.ensures (λ a b. both _ (c.has_marks.ensures.1 (a, b)) c.if-has_marks.false) in
    let rises = above-rises c.args.shape.now.shape c.requires.shape c.up.at _ (sym c.in-Some.ensures) in
    record {
      stands = omega (arith, rises);
      size = c.drop_around.ensures.size ∙ c.up.invariant.size;
      spare = c.drop_around.ensures.spare ∙ c.up.invariant.spare;
      climbing = climbs_on c.args.shape.now.shape _ _ c.up.known _ _ _ c.up.at c.in-Some.parent c.in-Some.alternative _ _
          (λ other ne. written c.args.shape.now.shape c.requires.shape c.up.at c.up.proved c.up.stuck _ _ c.up.is_proved c.up.is_stuck (omega arith) (omega arith) c.put_flag.ensures c.put_flag-in-up.ensures
          c.up.invariant.climbing.proved_is c.up.invariant.climbing.stuck_is c.up.invariant.climbing.others other (other_parent c.args.shape.now.shape c.requires.shape c.up.at _ (sym c.in-Some.ensures) other ne))
          a c.is_proved_above-proved_above.ensures.is c.is_stuck_above-stuck_above.ensures.is c.is_proved_above-proved_above.ensures.knows c.is_proved_above-proved_above.ensures.passed
          c.is_stuck_above-stuck_above.ensures.run c.is_stuck_above-stuck_above.ensures.knows c.is_stuck_above-stuck_above.ensures.others (c.drop_around.ensures.spread c.up.proved c.up.stuck d c.up.invariant.climbing.spread);
    }

pub returns-in-None-clause-local : goal.returns-in-None-clause-local
returns-in-None-clause-local c = λ other.
    written c.args.shape.now.shape c.requires.shape c.up.at c.up.proved c.up.stuck _ _ c.up.is_proved c.up.is_stuck (omega arith) (omega arith) c.put_flag.ensures c.put_flag-in-up.ensures
    c.up.invariant.climbing.proved_is c.up.invariant.climbing.stuck_is c.up.invariant.climbing.others other (root_is_free c.args.shape.now.shape c.requires.shape c.up.at (sym c.in-None.ensures) other)

pub returns-in-None-clause-spread : goal.returns-in-None-clause-spread
returns-in-None-clause-spread c =
    c.drop_around.ensures.spread c.up.proved c.up.stuck
    (decides c.args.shape.now.shape c.up.proved c.up.stuck _ _ c.up.known c.up.relevance.fading c.up.at c.up.is_proved c.up.is_stuck c.up.invariant.climbing (omega arith) (omega arith) c.put_flag.ensures c.put_flag-in-up.ensures (λ a b. both _ (c.has_marks.ensures.1 (a, b)) c.if-has_marks.false))
    c.up.invariant.climbing.spread

pub returns-in-None-clause-knows_proved : goal.returns-in-None-clause-knows_proved
returns-in-None-clause-knows_proved c = written_knows_proved c.up.proved _ c.up.known c.up.at c.up.is_proved (omega arith) c.put_flag.ensures c.up.invariant.climbing.proved_rises c.up.invariant.climbing.knows_proved

pub returns-in-None-clause-knows_stuck : goal.returns-in-None-clause-knows_stuck
returns-in-None-clause-knows_stuck c = root_knows_stuck c.args.shape.now.shape c.requires.shape c.up.stuck _ c.up.known c.up.at c.up.is_stuck (omega arith) c.put_flag-in-up.ensures c.up.invariant.climbing.stuck_rises
    (sym c.in-None.ensures) c.up.invariant.climbing.knows_stuck
