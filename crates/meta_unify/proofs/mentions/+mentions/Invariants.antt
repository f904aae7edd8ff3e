use Rattle.std.proofs.Common.{◌≡◌, drop}
use Rattle.lf_definitions.specs.Syntax.{term_size, spine_size}
use Rattle.lf_terms.specs.Terms.{term_of, spine_of}
use Rattle.meta_unify.specs.Mentions.{mentions_bound_among}
use Rattle.meta_unify.proofs.mentions.+mentions.Given as goal

abbrev pub decreases-mentions : goal.decreases-mentions
decreases-mentions l = term_size (term_of l.term.now)

abbrev pub decreases-mentions_among : goal.decreases-mentions_among
decreases-mentions_among l = spine_size l.terms.now

abbrev pub invariant-mentions_among-loop-i : goal.invariant-mentions_among-loop-i
invariant-mentions_among-loop-i l = mentions_bound_among l.assign l.terms ≡ mentions_bound_among l.assign (spine_of (drop l.i l.items))
