use Rattle.std.proofs.Common.{◌+◌, arith, refl, sym, ap, ◌∙◌}
use Rattle.std.proofs.lemmas.Result.{on_ok_weaker}
use Rattle.lf_definitions.specs.Syntax.{lam, spine_size}
use Rattle.lf_terms.specs.Terms.{head_of, term_of}
use Rattle.lf_terms.proofs.Spines.{item_size}
use Rattle.binder_marks.specs.Marks.{with_marks}
use Rattle.binder_marks.specs.Mentions.{mentions_in_spine}
use Rattle.binder_marks.proofs.MarkSteps.{same_places, lam_marked, at_marked, spine_step, spine_end}
use Rattle.binder_marks.proofs.marking.+mark_term.Goals as goal

pub mark_term-returns-in_ok-inside-in-Lam : goal.mark_term-returns-in_ok-inside-in-Lam
mark_term-returns-in_ok-inside-in-Lam t c =
    on_ok_weaker c.mark_term.result
    (λ e. lam_marked c.args.places.now c.args.local c.in_ok-inside-in-Lam.inside _ _ (term_of c.args.term.now) (term_of c.term.result.now)
    (ap term_of c.in-Lam.is ∙ ap lam (sym c.term.ensures)) c.in_ok-inside-in-Lam.ensures e)
    c.mark_term.ensures

pub mark_term-returns-in-At : goal.mark_term-returns-in-At
mark_term-returns-in-At t c =
    on_ok_weaker c.mark_terms.result
    (λ e. at_marked c.args.places.now c.args.local _ _ _ (term_of c.args.term.now) (head_of c.in-At.head) c.in-At.args (ap term_of c.in-At.is) c.mark_head.ensures e)
    c.mark_terms.ensures

pub mark_terms-loop-term-init : goal.mark_terms-loop-term-init
mark_terms-loop-term-init t c = refl

pub mark_terms-mark_term-requires : goal.mark_terms-mark_term-requires
mark_terms-mark_term-requires t c = (
  omega (arith, c.decreases, ap spine_size c.as_slice-items.ensures, item_size c.as_slice-items.result.now c.loop-term.term-index c.term-item.result c.loop-term-test.true c.term-item.is),
  same_places c.args.places.now c.args.marks.now c.loop-term.marks c.loop-term.auto.marks c.requires,
)

pub mark_terms-loop-term-preserved : goal.mark_terms-loop-term-preserved
mark_terms-loop-term-preserved t c =
    spine_step c.args.places.now c.args.local c.loop-term.marks _ _ c.as_slice-items.result.now c.loop-term.term-index c.term-item.result c.loop-term-test.true c.term-item.is
    c.in_ok-mark_term.ensures c.loop-term.invariant

pub mark_terms-returns : goal.mark_terms-returns
mark_terms-returns t c =
    spine_end c.args.places.now c.args.local c.loop-term.marks _ c.as_slice-items.result.now c.loop-term.term-index c.loop-term-test.false c.loop-term.invariant
    ∙ ap (λ s. with_marks c.args.places.now (λ n. mentions_in_spine (c.args.local + n) s) c.args.marks.now) c.as_slice-items.ensures
