use Rattle.std.proofs.Common.{◌+◌, map, take, take_all, refl, subst, arith}
use Rattle.lf_terms.specs.GoalNumbers.{NumbersRise}
use Rattle.lf_terms.specs.Targets.{goal_of}
use Rattle.lf_terms.proofs.GoalNumbers.{no_numbers, rise_pushed}
use Rattle.lf_terms.proofs.ShapeLists.{take_read}
use Rattle.lf_terms.proofs.goal_numbers.numbers_rise.Goals as goal

pub loop-i-init : goal.loop-i-init
loop-i-init c = no_numbers

pub loop-i-preserved : goal.loop-i-preserved
loop-i-preserved c =
    let goals = c.args.goals.now in
    let i = c.loop-i.i in
    rise_pushed (take i goals) (take i goals) (take (i + 1) goals) c.index-goals-i.result refl (take_read goals i c.index-goals-i.result c.loop-i-test.true c.index-goals-i.is)
    (c.is_past.ensures c.if-not-is_past.false) c.loop-i.invariant

pub returns : goal.returns
returns c = λ _. subst (λ l. NumbersRise (map goal_of l)) (take_all c.loop-i.i c.args.goals.now (omega arith)) c.loop-i.invariant
