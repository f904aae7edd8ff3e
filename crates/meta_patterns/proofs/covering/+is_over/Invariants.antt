use Rattle.std.proofs.Common.{◌≡◌, drop}
use Rattle.lf_definitions.specs.Syntax.{term_size, spine_size}
use Rattle.lf_terms.specs.Terms.{term_of, spine_of}
use Rattle.unification.specs.Patterns.{is_over_spine}
use Rattle.meta_patterns.specs.Variables.{under_binders}
use Rattle.meta_patterns.proofs.covering.+is_over.Given as goal

abbrev pub decreases-is_over : goal.decreases-is_over
decreases-is_over l = term_size (term_of l.term.now)

abbrev pub decreases-is_over_all : goal.decreases-is_over_all
decreases-is_over_all l = spine_size l.terms.now

abbrev pub invariant-is_over_all-loop-i : goal.invariant-is_over_all-loop-i
invariant-is_over_all-loop-i l = is_over_spine (under_binders l.depth l.pattern) l.terms ≡ is_over_spine (under_binders l.depth l.pattern) (spine_of (drop l.i l.items))
