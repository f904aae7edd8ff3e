use Rattle.std.proofs.Common.{sym, ap, ◌∙◌, map, take_all}
use Rattle.lf_terms.specs.Terms.{term_of}
use Rattle.rule_index.specs.Keys.{head_constant}
use Rattle.rule_index.proofs.Demands.{head_constants-spine_of}
use Rattle.rule_index.proofs.key.head_constants.Goals as goal

pub returns : goal.returns
returns c =
    c.loop-term.invariant ∙ ap (map (λ t. head_constant (term_of t))) (take_all c.loop-term.term-index c.args.terms.now c.loop-term-test.false) ∙ sym (head_constants-spine_of c.args.terms.now)
