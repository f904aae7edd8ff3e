use Rattle.std.proofs.Common.{ap, ◌∙◌, take_all}
use Rattle.applications.specs.Candidates.{without}
use Rattle.build_shared.proofs.DroppedPlaces.{without_more}
use Rattle.build_shared.proofs.dropping.without.Goals as goal

pub loop-i-preserved : goal.loop-i-preserved
loop-i-preserved c =
    without_more c.args.dropped.now c.as_slice-items.result.now c.loop-i.i c.loop-i.rest c.add_unless.new.rest c.loop-i-test.true c.loop-i.invariant c.in_ok-add_unless.ensures

pub returns : goal.returns
returns c = c.loop-i.invariant ∙ ap (without c.args.dropped.now) (take_all c.loop-i.i c.as_slice-items.result.now c.loop-i-test.false ∙ c.as_slice-items.ensures)
