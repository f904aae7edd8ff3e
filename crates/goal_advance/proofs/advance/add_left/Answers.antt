use Rattle.std.proofs.Common.{sym, append-nil}
use Rattle.meta_goals.specs.Bindings.{assigning}
use Rattle.build_shared.specs.Remaining.{CanLeave}
use Rattle.build_shared.proofs.FreshParts.{goal_read}
use Rattle.goal_advance.proofs.GoalsAfter.{left_next, left_in_all}
use Rattle.goal_advance.proofs.advance.add_left.Goals as goal

pub loop-i-init : goal.loop-i-init
loop-i-init c = λ all can. sym (append-nil c.args.left.now)

pub add_if_left-requires : goal.add_if_left-requires
add_if_left-requires c = (
  c.requires.0,
  goal_read (CanLeave c.requires.0 c.args.assign.now) c.as_slice-items.result.now c.loop-i.i c.index-items-i.result c.args.goals.now c.loop-i-test.true c.index-items-i.is c.as_slice-items.ensures c.requires.1,
)

pub loop-i-preserved : goal.loop-i-preserved
loop-i-preserved c =
    λ all can.
    left_next all (assigning c.args.assign.now) c.as_slice-items.result.now c.loop-i.i c.index-items-i.result c.args.left.now c.loop-i.left _ c.loop-i-test.true c.index-items-i.is (c.loop-i.invariant all can)
    (c.in_ok-add_if_left.ensures all
    (goal_read (CanLeave all c.args.assign.now) c.as_slice-items.result.now c.loop-i.i c.index-items-i.result c.args.goals.now c.loop-i-test.true c.index-items-i.is c.as_slice-items.ensures can))

pub returns : goal.returns
returns c = λ all can. left_in_all all (assigning c.args.assign.now) c.as_slice-items.result.now c.loop-i.i c.args.goals.now c.args.left.now _ c.loop-i-test.false c.as_slice-items.ensures (c.loop-i.invariant all can)
