use Rattle.std.proofs.Common.{◌≡◌, drop}
use Rattle.lf_definitions.specs.Syntax.{bound, term_size, spine_size}
use Rattle.head_laws.specs.Mentions.{occurs_in_spine}
use Rattle.lf_terms.specs.Terms.{term_of, spine_of}
use Rattle.build_shared.proofs.variables.+occurs_among.Given as goal

abbrev pub decreases-occurs_in_term : goal.decreases-occurs_in_term
decreases-occurs_in_term l = term_size (term_of l.term.now)

abbrev pub decreases-occurs_among : goal.decreases-occurs_among
decreases-occurs_among l = spine_size l.terms.now

abbrev pub invariant-occurs_among-loop-i : goal.invariant-occurs_among-loop-i
invariant-occurs_among-loop-i l = occurs_in_spine (bound l.number) l.terms ≡ occurs_in_spine (bound l.number) (spine_of (drop l.i l.items))
