use Rattle.std.proofs.Common.{◌≡◌, take}
use Rattle.lf_definitions.specs.Syntax.{joined}
use Rattle.lf_terms.specs.Terms.{spine_of}
use Rattle.elab_terms.proofs.results.append.Given as goal

abbrev pub invariant-loop-term : goal.invariant-loop-term
invariant-loop-term l = spine_of l.terms.items ≡ joined (spine_of l.fn.terms.items) (spine_of (take l.term-index l.more))
