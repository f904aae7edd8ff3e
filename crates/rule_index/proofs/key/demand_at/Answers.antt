use Rattle.std.proofs.Common.{sym, ◌∙◌}
use Rattle.lf_terms.specs.Terms.{term_of, spine_of}
use Rattle.lf_terms.proofs.Spines.{arg_at-spine_of}
use Rattle.rule_index.proofs.Demands.{demand_read, demand_past}
use Rattle.rule_index.proofs.key.demand_at.Goals as goal

pub returns-then-place-args : goal.returns-then-place-args
returns-then-place-args c =
    let ts = c.args.args.now in
    c.demand_of.ensures ∙ sym (demand_read (spine_of ts) c.args.place (term_of c.index-args-place.result) (arg_at-spine_of ts c.args.place c.index-args-place.result c.if-place-args.true c.index-args-place.is))

pub returns-else-place-args : goal.returns-else-place-args
returns-else-place-args c = sym (demand_past c.args.args.now c.args.place c.if-place-args.false)
