use Rattle.std.proofs.Common.{◌∙◌, sym, ap}
use Rattle.unification.specs.Patterns.{variables_of}
use Rattle.meta_patterns.proofs.Readings.{before-nothing, variables_none, variables_some, variables_end}
use Rattle.meta_patterns.proofs.reading.variables_of.Goals as goal

pub loop-i-init : goal.loop-i-init
loop-i-init c = ap variables_of (sym c.as_slice-items.ensures) ∙ sym (before-nothing c.new-numbers.result _ c.new-numbers.ensures)

pub returns-in-None : goal.returns-in-None
returns-in-None c =
    variables_none c.as_slice-items.result.now c.loop-i.i c.index-items-i.result c.loop-i.numbers c.loop-i-test.true c.index-items-i.is c.loop-i.invariant (sym c.in_ok-reads.ensures ∙ c.in-None.is)

pub loop-i-preserved : goal.loop-i-preserved
loop-i-preserved c =
    variables_some c.as_slice-items.result.now c.loop-i.i c.index-items-i.result c.in-Some.number c.loop-i.numbers c.push.new.self c.loop-i-test.true c.index-items-i.is c.loop-i.invariant
    (sym c.in_ok-reads.ensures ∙ c.in-Some.is) c.in_ok-push-in-Some.ensures.ok

pub returns : goal.returns
returns c = variables_end c.as_slice-items.result.now c.loop-i.i c.loop-i.numbers c.loop-i-test.false c.loop-i.invariant
