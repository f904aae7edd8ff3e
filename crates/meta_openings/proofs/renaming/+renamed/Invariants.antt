use Rattle.std.proofs.Common.{◌≡◌, take}
use Rattle.lf_definitions.specs.Renaming.{rename_spine, lifted_by}
use Rattle.lf_definitions.specs.Syntax.{term_size, spine_size}
use Rattle.lf_terms.specs.Terms.{term_of, spine_of}
use Rattle.meta_openings.specs.Counts.{by_counts}
use Rattle.meta_openings.proofs.renaming.+renamed.Given as goal

abbrev pub decreases-renamed_term : goal.decreases-renamed_term
decreases-renamed_term l = term_size (term_of l.term.now)

abbrev pub decreases-renamed_terms : goal.decreases-renamed_terms
decreases-renamed_terms l = spine_size l.terms.now

abbrev pub invariant-renamed_terms-loop-i : goal.invariant-renamed_terms-loop-i
invariant-renamed_terms-loop-i l = spine_of l.results.items ≡ rename_spine (lifted_by l.depth (by_counts l.before l.count)) (spine_of (take l.i l.items))
