use Rattle.std.proofs.Common.{sym, ◌∙◌}
use Rattle.std.specs.Prelude.{Contains}
use Rattle.meta_goals.specs.Bindings.{assigning}
use Rattle.build_shared.specs.Attempts.{among_at}
use Rattle.build_shared.proofs.EntryTests.{tested_more, tested_all, fails_all}
use Rattle.build_shared.proofs.FreshParts.{goal_read}
use Rattle.build_shared.proofs.testing.each_is_typed.Goals as goal

pub is_typed-requires-clause-among : goal.is_typed-requires-clause-among
is_typed-requires-clause-among c =
    goal_read (Contains (among_at c.args.attempt.now)) c.as_slice-items.result.now c.loop-i.i c.index-items-i.result c.args.goals.now c.loop-i-test.true c.index-items-i.is c.as_slice-items.ensures c.requires.among

pub returns-then-not-branch : goal.returns-then-not-branch
returns-then-not-branch c =
    let a = c.args.attempt.now in
    fails_all a.sig.now (among_at a) (assigning c.args.whole.now) c.args.list.now c.as_slice-items.result.now c.loop-i.i c.index-items-i.result c.args.goals.now c.loop-i-test.true c.index-items-i.is c.as_slice-items.ensures
    (sym c.in_ok-is_typed.ensures ∙ c.if-not-branch.true)

pub loop-i-preserved : goal.loop-i-preserved
loop-i-preserved c =
    let a = c.args.attempt.now in
    tested_more a.sig.now (among_at a) (assigning c.args.whole.now) c.args.list.now c.as_slice-items.result.now c.loop-i.i c.index-items-i.result c.loop-i-test.true c.index-items-i.is c.loop-i.invariant
    (sym c.in_ok-is_typed.ensures ∙ c.if-not-branch.false)

pub returns : goal.returns
returns c =
    let a = c.args.attempt.now in
    tested_all a.sig.now (among_at a) (assigning c.args.whole.now) c.args.list.now c.as_slice-items.result.now c.loop-i.i c.args.goals.now c.loop-i-test.false c.as_slice-items.ensures c.loop-i.invariant
