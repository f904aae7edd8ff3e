use Rattle.std.proofs.Common.{◌≡◌, take}
use Rattle.lf_definitions.specs.Syntax.{term_size, spine_size}
use Rattle.lf_definitions.specs.Renaming.{rename_spine}
use Rattle.lf_definitions.specs.Instantiation.{metavariables}
use Rattle.head_laws.specs.Renumbering.{place_of_number}
use Rattle.lf_terms.specs.Terms.{term_of, spine_of}
use Rattle.meta_goals.proofs.renumber.+renumbered_term.Given as goal

abbrev pub decreases-renumbered_term : goal.decreases-renumbered_term
decreases-renumbered_term l = term_size (term_of l.term.now)

abbrev pub decreases-renumbered_terms : goal.decreases-renumbered_terms
decreases-renumbered_terms l = spine_size l.terms.now

abbrev pub invariant-renumbered_terms-loop-i : goal.invariant-renumbered_terms-loop-i
invariant-renumbered_terms-loop-i l = spine_of l.results.items ≡ rename_spine (metavariables (place_of_number l.places)) (spine_of (take l.i l.items))
