use Rattle.std.proofs.Common.{◌≡◌, false, None, suc, ◌+◌, ◌-◌, refl, subst, arith}
use Rattle.goal_expand.specs.declared.progress.Progress.{Progress}
use Rattle.goal_expand.specs.Progress.{IsUnderWay, IsAfterTurn}
use Rattle.goal_expand.proofs.Turns.{at_first, at_last}
use Rattle.goal_expand.proofs.normalising.normalised.Goals as goal

pub loop-count-init : goal.loop-count-init
loop-count-init c =
    let p : Progress = record { labels = c.new.result; closed = false; reached = None } in
    at_first c.args.given.now c.requires 100 refl p c.new.ensures.items refl refl

pub turn-requires-clause-under_way : goal.turn-requires-clause-under_way
turn-requires-clause-under_way c =
    let e : 100 - c.loop-count.count ≡ suc (100 - (c.loop-count.count + 1)) = omega arith in
    (100 - (c.loop-count.count + 1), subst (λ k. IsUnderWay c.args.given.now k c.loop-count.made) e c.loop-count.invariant)

pub returns-then-ended : goal.returns-then-ended
returns-then-ended c =
    let e : 100 - c.loop-count.count ≡ suc (100 - (c.loop-count.count + 1)) = omega arith in
    let g = c.args.given.now in
    let left = 100 - (c.loop-count.count + 1) in
    subst (λ b. IsAfterTurn g left b c.turn.new.made) c.if-ended.true (c.in_ok-ended.ensures left (subst (λ k. IsUnderWay g k c.loop-count.made) e c.loop-count.invariant))

pub loop-count-preserved : goal.loop-count-preserved
loop-count-preserved c =
    let e : 100 - c.loop-count.count ≡ suc (100 - (c.loop-count.count + 1)) = omega arith in
    let g = c.args.given.now in
    let left = 100 - (c.loop-count.count + 1) in
    subst (λ b. IsAfterTurn g left b c.turn.new.made) c.if-ended.false (c.in_ok-ended.ensures left (subst (λ k. IsUnderWay g k c.loop-count.made) e c.loop-count.invariant))

pub returns : goal.returns
returns c =
    let e : 100 - c.loop-count.count ≡ 0 = omega arith in
    at_last c.args.given.now (100 - c.loop-count.count) e c.requires c.loop-count.made c.loop-count.invariant
