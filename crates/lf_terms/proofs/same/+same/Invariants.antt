use Rattle.std.proofs.Common.{◌≡◌, take}
use Rattle.lf_definitions.specs.Syntax.{term_size, spine_size}
use Rattle.lf_terms.specs.Terms.{term_of, spine_of}
use Rattle.lf_terms.proofs.same.+same.Given as goal

abbrev pub decreases-same : goal.decreases-same
decreases-same l = term_size (term_of l.a.now)

abbrev pub decreases-same_terms : goal.decreases-same_terms
decreases-same_terms l = spine_size l.a.now

abbrev pub invariant-same_terms-loop-i : goal.invariant-same_terms-loop-i
invariant-same_terms-loop-i l = spine_of (take l.i l.xs) ≡ spine_of (take l.i l.ys)
