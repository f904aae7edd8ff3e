use Rattle.build_shared.proofs.ContextEntries.{place_more}
use Rattle.build_shared.proofs.hypotheses.places.Goals as goal

pub loop-i-preserved : goal.loop-i-preserved
loop-i-preserved c = place_more c.loop-i.found c.push.new.self c.len-count.result c.loop-i.i c.loop-i-test.true c.in_ok-push.ensures.ok c.loop-i.invariant
