use Rattle.std.proofs.Common.{◌≡◌, drop}
use Rattle.lf_definitions.specs.Syntax.{term_size, spine_size}
use Rattle.lf_terms.specs.Terms.{term_of, spine_of}
use Rattle.unification.specs.Patterns.{spine_escapes_from}
use Rattle.meta_patterns.specs.Variables.{under_binders}
use Rattle.meta_patterns.proofs.covering.+escapes_from.Given as goal

abbrev pub decreases-escapes_from : goal.decreases-escapes_from
decreases-escapes_from l = term_size (term_of l.term.now)

abbrev pub decreases-one_escapes_from : goal.decreases-one_escapes_from
decreases-one_escapes_from l = spine_size l.terms.now

abbrev pub invariant-one_escapes_from-loop-i : goal.invariant-one_escapes_from-loop-i
invariant-one_escapes_from-loop-i l = spine_escapes_from (under_binders l.depth l.pattern) l.terms ≡ spine_escapes_from (under_binders l.depth l.pattern) (spine_of (drop l.i l.items))
