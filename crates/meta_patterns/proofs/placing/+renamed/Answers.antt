use Rattle.std.proofs.Common.{◌+◌, arith, sym, ap, ap₂, ◌∙◌}
use Rattle.std.proofs.lemmas.Result.{IfOk-weaker}
use Rattle.lf_definitions.specs.Syntax.{lam, spine_size}
use Rattle.lf_definitions.specs.Renaming.{rename, lifted_by}
use Rattle.lf_terms.specs.Terms.{term_of}
use Rattle.lf_terms.proofs.Spines.{item_size}
use Rattle.unification.specs.Patterns.{placed}
use Rattle.meta_patterns.proofs.Placings.{term_within, spine_within, lifted_one_more, renamed_more}
use Rattle.meta_patterns.proofs.placing.+renamed.Goals as goal

pub renamed-returns-then-is_within : goal.renamed-returns-then-is_within
renamed-returns-then-is_within t c =
    let ns = c.args.pattern.now in
    let depth = c.args.depth in
    let body = c.in-Lam.body in
    ap lam (c.in_ok-copy-in-Lam.ensures ∙ sym (term_within (depth + 1) ns body (c.is_within.ensures c.if-is_within.true)) ∙ ap (λ ξ. rename ξ body) (lifted_one_more depth (placed ns)))
    ∙ sym (ap (λ u. rename (lifted_by depth (placed ns)) (term_of u)) c.in-Lam.is)

pub renamed-returns-in_ok-new-in-Lam : goal.renamed-returns-in_ok-new-in-Lam
renamed-returns-in_ok-new-in-Lam t c =
    let ns = c.args.pattern.now in
    let depth = c.args.depth in
    let body = c.in-Lam.body in
    ap lam (c.in_ok-new-in-Lam.ensures ∙ c.in_ok-body-in-Lam.ensures ∙ ap₂ (λ ξ u. rename ξ u) (lifted_one_more depth (placed ns)) c.term.ensures)
    ∙ sym (ap (λ u. rename (lifted_by depth (placed ns)) (term_of u)) c.in-Lam.is)

pub renamed_all-returns-then-is_within : goal.renamed_all-returns-then-is_within
renamed_all-returns-then-is_within t c =
    IfOk-weaker c.copy.result _ _ (λ r same. same ∙ sym (spine_within c.args.depth c.args.pattern.now c.args.terms.now (c.is_within.ensures c.if-is_within.true))) c.copy.ensures

pub renamed_all-renamed-requires : goal.renamed_all-renamed-requires
renamed_all-renamed-requires t c =
    (omega (arith, c.decreases, ap spine_size c.as_slice-items.ensures, item_size c.as_slice-items.result.now c.loop-i.i c.index-items-i.result c.loop-i-test.true c.index-items-i.is), tt)

pub renamed_all-loop-i-preserved : goal.renamed_all-loop-i-preserved
renamed_all-loop-i-preserved t c =
    renamed_more (lifted_by c.args.depth (placed c.args.pattern.now)) c.as_slice-items.result.now c.loop-i.i c.index-items-i.result _ _ _ c.loop-i-test.true c.index-items-i.is
    c.in_ok-push.ensures.items c.in_ok-renamed.ensures c.loop-i.invariant
