use Rattle.std.proofs.Common.{◌≡◌, map, take}
use Rattle.lf_terms.specs.Terms.{term_of}
use Rattle.rule_index.specs.Keys.{head_constant}
use Rattle.rule_index.proofs.key.head_constants.Given as goal

abbrev pub invariant-loop-term : goal.invariant-loop-term
invariant-loop-term l = l.constants.items ≡ map (λ t. head_constant (term_of t)) (take l.term-index l.terms)
