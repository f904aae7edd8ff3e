use Rattle.std.proofs.Common.{arith}
use Rattle.proof_replay.proofs.WholeTables.{may_put_back, all_back, at_the_end, at_the_start}
use Rattle.proof_replay.proofs.finals.finals_of.Goals as goal

pub loop-i-init : goal.loop-i-init
loop-i-init c = at_the_end c.args.builds.now _ c.new-finals.ensures

pub put_back-requires : goal.put_back-requires
put_back-requires c =
    may_put_back c.args.builds.now c.loop-i.i c.index-builds-place.result c.loop-i.finals (omega (arith, c.loop-i-test.true)) c.index-builds-place.is c.loop-i.invariant c.requires

pub loop-i-preserved : goal.loop-i-preserved
loop-i-preserved c =
    all_back c.args.builds.now c.loop-i.i c.index-builds-place.result c.loop-i.finals (omega (arith, c.loop-i-test.true)) c.index-builds-place.is c.loop-i.invariant c.put_back.new.finals c.in_ok-put_back.ensures

pub returns : goal.returns
returns c = at_the_start c.args.builds.now c.loop-i.finals c.loop-i.i (omega (arith, c.loop-i-test.false)) c.loop-i.invariant
