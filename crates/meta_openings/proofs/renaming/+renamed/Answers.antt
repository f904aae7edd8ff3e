use Rattle.std.proofs.Common.{arith, sym, ap, ◌∙◌}
use Rattle.std.proofs.lemmas.Result.{IfOk-weaker}
use Rattle.lf_definitions.specs.Syntax.{lam, spine_size}
use Rattle.lf_terms.specs.Terms.{term_of}
use Rattle.lf_terms.proofs.Spines.{item_size}
use Rattle.meta_openings.proofs.Renamed.{renamed_lam, spine_within, more_renamed}
use Rattle.meta_openings.proofs.renaming.+renamed.Goals as goal

pub renamed_term-returns-in_ok-new-in-Lam : goal.renamed_term-returns-in_ok-new-in-Lam
renamed_term-returns-in_ok-new-in-Lam t c =
    let a = c.args in
    renamed_lam a.before.now a.count a.depth (term_of a.term.now) (term_of c.term.result.now) c.in_ok-new-in-Lam.field-0 (ap term_of c.in-Lam.is ∙ ap lam (sym c.term.ensures))
    (c.in_ok-new-in-Lam.ensures ∙ c.in_ok-body-in-Lam.ensures)

pub renamed_terms-returns-then-is_within : goal.renamed_terms-returns-then-is_within
renamed_terms-returns-then-is_within t c =
    let a = c.args in
    IfOk-weaker c.copy.result _ _
    (λ r same. same ∙ spine_within a.before.now a.count a.depth a.terms.now (c.is_within.ensures c.if-is_within.true))
    c.copy.ensures

pub renamed_terms-renamed_term-requires : goal.renamed_terms-renamed_term-requires
renamed_terms-renamed_term-requires t c = (
  omega (
    arith,
    c.decreases,
    ap spine_size c.as_slice-items.ensures,
    item_size c.as_slice-items.result.now c.loop-i.i c.index-items-i.result c.loop-i-test.true c.index-items-i.is,
  ),
  c.requires,
)

pub renamed_terms-loop-i-preserved : goal.renamed_terms-loop-i-preserved
renamed_terms-loop-i-preserved t c =
    let a = c.args in
    more_renamed a.before.now a.count a.depth c.as_slice-items.result.now _ _ c.loop-i.i c.index-items-i.result _ c.loop-i-test.true c.index-items-i.is c.in_ok-push.ensures.items
    c.in_ok-renamed_term.ensures c.loop-i.invariant
