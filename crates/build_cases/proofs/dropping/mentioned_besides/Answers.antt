use Rattle.build_cases.specs.Splits.{mentions_besides}
use Rattle.build_cases.proofs.DroppedPlaces.{found_there, not_there, nowhere}
use Rattle.build_cases.proofs.dropping.mentioned_besides.Goals as goal

pub returns-then-found : goal.returns-then-found
returns-then-found c =
    let a = c.args in
    found_there (mentions_besides a.number a.place) a.hyps.now c.loop-i.i c.index-hyps-i.result c.in_ok-found.found _ c.loop-i-test.true c.index-hyps-i.is c.in_ok-found.ensures c.if-found.true c.loop-i.invariant

pub loop-i-preserved : goal.loop-i-preserved
loop-i-preserved c =
    let a = c.args in
    not_there (mentions_besides a.number a.place) a.hyps.now c.loop-i.i c.index-hyps-i.result c.in_ok-found.found _ c.loop-i-test.true c.index-hyps-i.is c.in_ok-found.ensures c.if-found.false c.loop-i.invariant

pub returns : goal.returns
returns c = let a = c.args in nowhere (mentions_besides a.number a.place) a.hyps.now c.loop-i.i _ c.loop-i-test.false c.loop-i.invariant
