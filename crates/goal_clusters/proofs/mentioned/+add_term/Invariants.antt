use Rattle.std.proofs.Common.{◌≡◌, ◌++◌, take}
use Rattle.lf_definitions.specs.Syntax.{term_size, spine_size}
use Rattle.lf_terms.specs.Terms.{term_of, spine_of}
use Rattle.goal_clusters.specs.Mentioned.{numbers_in_spine}
use Rattle.goal_clusters.proofs.mentioned.+add_term.Given as goal

abbrev pub decreases-add_term : goal.decreases-add_term
decreases-add_term l = term_size (term_of l.term.now)

abbrev pub decreases-add_terms : goal.decreases-add_terms
decreases-add_terms l = spine_size l.terms.now

abbrev pub invariant-add_terms-loop-i : goal.invariant-add_terms-loop-i
invariant-add_terms-loop-i l = l.numbers.items ≡ l.fn.numbers.items ++ numbers_in_spine (spine_of (take l.i l.items))
