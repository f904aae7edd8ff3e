use Rattle.std.proofs.Common.{◌≡◌, drop}
use Rattle.lf_definitions.specs.Syntax.{term_size, spine_size}
use Rattle.lf_terms.specs.Terms.{term_of, spine_of}
use Rattle.unification.specs.Patterns.{occurs_plainly_in_spine}
use Rattle.meta_patterns.proofs.occurrence.+occurs_plainly.Given as goal

abbrev pub decreases-occurs_plainly : goal.decreases-occurs_plainly
decreases-occurs_plainly l = term_size (term_of l.term.now)

abbrev pub decreases-occurs_plainly_among : goal.decreases-occurs_plainly_among
decreases-occurs_plainly_among l = spine_size l.terms.now

abbrev pub invariant-occurs_plainly_among-loop-i : goal.invariant-occurs_plainly_among-loop-i
invariant-occurs_plainly_among-loop-i l = occurs_plainly_in_spine l.goal l.terms ≡ occurs_plainly_in_spine l.goal (spine_of (drop l.i l.items))
