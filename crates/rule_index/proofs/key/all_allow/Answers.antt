use Rattle.std.proofs.Common.{ap, ◌∙◌, get_or, None}
use Rattle.lf_terms.specs.Terms.{spine_of}
use Rattle.rule_index.specs.Keys.{all_allow}
use Rattle.rule_index.specs.Stored.{meets}
use Rattle.rule_index.proofs.Demands.{from_start, not_met, one_met, all_met}
use Rattle.rule_index.proofs.key.all_allow.Goals as goal

pub loop-i-init : goal.loop-i-init
loop-i-init c = ap (all_allow c.args.constants.now) (from_start (spine_of c.args.args.now))

pub returns-then-not-meets : goal.returns-then-not-meets
returns-then-not-meets c =
    let parts = c.args.constants.now in
    not_met parts (spine_of c.args.args.now) c.loop-i.i c.loop-i-test.true c.loop-i.invariant c.meets.result (c.meets.ensures ∙ ap (meets (get_or parts c.loop-i.i None)) c.demand_at.ensures) c.if-not-meets.true

pub loop-i-preserved : goal.loop-i-preserved
loop-i-preserved c =
    let parts = c.args.constants.now in
    one_met parts (spine_of c.args.args.now) c.loop-i.i c.loop-i-test.true c.loop-i.invariant c.meets.result (c.meets.ensures ∙ ap (meets (get_or parts c.loop-i.i None)) c.demand_at.ensures) c.if-not-meets.false

pub returns : goal.returns
returns c = all_met c.args.constants.now (spine_of c.args.args.now) c.loop-i.i c.loop-i-test.false c.loop-i.invariant
