use Rattle.std.proofs.Common.{◌≡◌, take}
use Rattle.lf_definitions.specs.Syntax.{term_size, spine_size}
use Rattle.lf_definitions.specs.Renaming.{rename_spine, lifted_by}
use Rattle.lf_terms.specs.Terms.{term_of, spine_of}
use Rattle.unification.specs.Patterns.{placed}
use Rattle.meta_patterns.proofs.placing.+renamed.Given as goal

abbrev pub decreases-renamed : goal.decreases-renamed
decreases-renamed l = term_size (term_of l.term.now)

abbrev pub decreases-renamed_all : goal.decreases-renamed_all
decreases-renamed_all l = spine_size l.terms.now

abbrev pub invariant-renamed_all-loop-i : goal.invariant-renamed_all-loop-i
invariant-renamed_all-loop-i l = spine_of l.results.items ≡ rename_spine (lifted_by l.depth (placed l.pattern)) (spine_of (take l.i l.items))
