use Rattle.std.proofs.Common.{take}
use Rattle.lf_definitions.specs.Syntax.{metavariable, term_size, spine_size}
use Rattle.lf_definitions.specs.Occurrence.{OccursInSpine}
use Rattle.lf_terms.specs.Terms.{term_of, spine_of}
use Rattle.meta_goals.proofs.mentions.+term_mentions.Given as goal

abbrev pub decreases-term_mentions : goal.decreases-term_mentions
decreases-term_mentions l = term_size (term_of l.term.now)

abbrev pub decreases-terms_mention : goal.decreases-terms_mention
decreases-terms_mention l = spine_size l.terms.now

abbrev pub invariant-terms_mention-loop-i : goal.invariant-terms_mention-loop-i
invariant-terms_mention-loop-i l = OccursInSpine (metavariable l.id) (spine_of (take l.i l.items)) → ⊥
