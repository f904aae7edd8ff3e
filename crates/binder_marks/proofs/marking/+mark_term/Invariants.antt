use Rattle.std.proofs.Common.{◌≡◌, ◌+◌, drop}
use Rattle.lf_definitions.specs.Syntax.{term_size, spine_size}
use Rattle.lf_terms.specs.Terms.{term_of, spine_of}
use Rattle.binder_marks.specs.Marks.{with_marks}
use Rattle.binder_marks.specs.Mentions.{mentions_in_spine}
use Rattle.binder_marks.proofs.marking.+mark_term.Given as goal

abbrev pub decreases-mark_term : goal.decreases-mark_term
decreases-mark_term l = term_size (term_of l.term.now)

abbrev pub decreases-mark_terms : goal.decreases-mark_terms
decreases-mark_terms l = spine_size l.terms.now

abbrev pub invariant-mark_terms-loop-term : goal.invariant-mark_terms-loop-term
invariant-mark_terms-loop-term l =
    with_marks l.places (λ n. mentions_in_spine (l.local + n) (spine_of (drop l.term-index l.items))) l.marks
    ≡ with_marks l.places (λ n. mentions_in_spine (l.local + n) (spine_of l.items)) l.initial.marks
