use Rattle.std.proofs.Common.{◌≡◌, ◌-◌, drop}
use Rattle.lf_definitions.specs.Syntax.{term_size, spine_size}
use Rattle.lf_terms.specs.Terms.{term_of, spine_of}
use Rattle.unification.specs.Patterns.{are_own}
use Rattle.meta_patterns.proofs.reading.+reads.Given as goal

abbrev pub decreases-are_own : goal.decreases-are_own
decreases-are_own l = spine_size l.args.now

abbrev pub decreases-reads_under : goal.decreases-reads_under
decreases-reads_under l = term_size (term_of l.term.now)

abbrev pub invariant-are_own-loop-i : goal.invariant-are_own-loop-i
invariant-are_own-loop-i l = are_own l.count l.args ≡ are_own (l.count - l.i) (spine_of (drop l.i l.items))
