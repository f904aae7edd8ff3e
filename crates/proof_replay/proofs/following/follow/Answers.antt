use Rattle.std.proofs.Common.{arith}
use Rattle.meta_goals.specs.GoalsOf.{goals_of}
use Rattle.goal_book.specs.GoalBooks.{rules_in}
use Rattle.proof_replay.proofs.Scripts.{at_first, on_the_way, ends_here, comes_to}
use Rattle.proof_replay.proofs.following.follow.Goals as goal

pub loop-i-init : goal.loop-i-init
loop-i-init c = at_first c.args.book.now.sig (rules_in c.args.book.now) c.args.script.now _ c.new.ensures.items c.requires.shaped

pub turn-requires-clause-shaped : goal.turn-requires-clause-shaped
turn-requires-clause-shaped c = c.loop-i.invariant.shaped

pub returns-in-Some : goal.returns-in-Some
returns-in-Some c = λ a.
    ends_here c.args.book.now.sig (rules_in c.args.book.now) (goals_of c.args.list) c.args.script.now c.loop-i.i c.loop-i.trail c.loop-i.invariant c.index-script-i.result (omega (arith, c.loop-i-test.true)) c.index-script-i.is
    c.turn.new.trail c.in_ok-ended.ended c.in-Some.answer c.in-Some.is c.in_ok-ended.ensures a

pub loop-i-preserved : goal.loop-i-preserved
loop-i-preserved c =
    on_the_way c.args.book.now.sig (rules_in c.args.book.now) (goals_of c.args.list) c.args.script.now c.loop-i.i c.loop-i.trail c.loop-i.invariant c.index-script-i.result (omega (arith, c.loop-i-test.true)) c.index-script-i.is
    c.turn.new.trail c.in_ok-ended.ended c.in_default.is c.in_ok-ended.ensures

pub returns : goal.returns
returns c = λ a.
    comes_to c.args.book.now.sig (rules_in c.args.book.now) (goals_of c.args.list) c.args.script.now c.loop-i.i c.loop-i.trail c.loop-i.invariant (omega (arith, c.loop-i-test.false, c.loop-i.auto.i-end)) c.in_ok-run.run'
    c.in_ok-run.ensures a
