use Rattle.std.proofs.Common.{◌≡◌, drop}
use Rattle.lf_definitions.specs.Syntax.{metavariable, term_size, spine_size}
use Rattle.head_laws.specs.Mentions.{occurs_in_spine}
use Rattle.lf_terms.specs.Terms.{term_of, spine_of}
use Rattle.meta_patterns.proofs.occurrence.+occurs.Given as goal

abbrev pub decreases-occurs : goal.decreases-occurs
decreases-occurs l = term_size (term_of l.term.now)

abbrev pub decreases-occurs_among : goal.decreases-occurs_among
decreases-occurs_among l = spine_size l.terms.now

abbrev pub invariant-occurs_among-loop-i : goal.invariant-occurs_among-loop-i
invariant-occurs_among-loop-i l = occurs_in_spine (metavariable l.goal) l.terms ≡ occurs_in_spine (metavariable l.goal) (spine_of (drop l.i l.items))
