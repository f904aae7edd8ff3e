use Rattle.std.proofs.Common.{sym, ap, ◌∙◌, take_all, arith}
use Rattle.std.proofs.lemmas.Result.{IfOk-weaker}
use Rattle.lf_definitions.specs.Syntax.{lam, term_size, spine_size}
use Rattle.lf_definitions.specs.Renaming.{rename_spine}
use Rattle.lf_definitions.specs.Instantiation.{metavariables}
use Rattle.head_laws.specs.Renumbering.{place_of_number}
use Rattle.lf_terms.specs.Terms.{term_of, spine_of}
use Rattle.lf_terms.proofs.Spines.{item_size}
use Rattle.meta_goals.proofs.Renumbered.{term_kept, spine_kept, lam_renamed, one_more_renamed}
use Rattle.meta_goals.proofs.renumber.+renumbered_term.Goals as goal

pub renumbered_term-returns-then-not-has_metas : goal.renumbered_term-returns-then-not-has_metas
renumbered_term-returns-then-not-has_metas t c =
    IfOk-weaker c.copy.result _ _ (λ r e. e ∙ term_kept (place_of_number c.args.places.now) (term_of c.args.term.now) (c.has_metas.ensures c.if-not-has_metas.true)) c.copy.ensures

pub renumbered_term-renumbered_term-requires : goal.renumbered_term-renumbered_term-requires
renumbered_term-renumbered_term-requires t c = (omega (arith, c.decreases, ap (λ x. term_size (term_of x)) c.in-Lam.is, ap term_size c.term.ensures), tt)

pub renumbered_term-renumbered_terms-requires : goal.renumbered_term-renumbered_terms-requires
renumbered_term-renumbered_terms-requires t c = (omega (arith, c.decreases, ap (λ x. term_size (term_of x)) c.in-At.is), tt)

pub renumbered_term-returns-in_ok-new-in-Lam : goal.renumbered_term-returns-in_ok-new-in-Lam
renumbered_term-returns-in_ok-new-in-Lam t c =
    lam_renamed (place_of_number c.args.places.now) (term_of c.args.term.now) (term_of c.term.result.now) (term_of c.in_ok-inside-in-Lam.inside) c.in_ok-new-in-Lam.field-0
    (ap term_of c.in-Lam.is ∙ ap lam (sym c.term.ensures)) c.in_ok-inside-in-Lam.ensures c.in_ok-new-in-Lam.ensures

pub renumbered_terms-returns-then-not-has_metas : goal.renumbered_terms-returns-then-not-has_metas
renumbered_terms-returns-then-not-has_metas t c =
    IfOk-weaker c.copy.result _ _ (λ r e. e ∙ spine_kept (place_of_number c.args.places.now) c.args.terms.now (c.has_metas.ensures c.if-not-has_metas.true)) c.copy.ensures

pub renumbered_terms-renumbered_term-requires : goal.renumbered_terms-renumbered_term-requires
renumbered_terms-renumbered_term-requires t c =
    (omega (arith, c.decreases, ap spine_size c.as_slice-items.ensures, item_size c.as_slice-items.result.now c.loop-i.i c.index-items-i.result c.loop-i-test.true c.index-items-i.is), tt)

pub renumbered_terms-loop-i-preserved : goal.renumbered_terms-loop-i-preserved
renumbered_terms-loop-i-preserved t c =
    one_more_renamed (place_of_number c.args.places.now) c.as_slice-items.result.now c.loop-i.results.items c.push.new.self.items c.loop-i.i c.index-items-i.result c.in_ok-renumbered_term.field-0
    c.loop-i-test.true c.index-items-i.is c.in_ok-push.ensures.items c.loop-i.invariant c.in_ok-renumbered_term.ensures

pub renumbered_terms-returns : goal.renumbered_terms-returns
renumbered_terms-returns t c =
    let ξ = metavariables (place_of_number c.args.places.now) in
    IfOk-weaker c.from_vec.result _ _
    (λ r e. e ∙ c.loop-i.invariant ∙ ap (λ l. rename_spine ξ (spine_of l)) (take_all c.loop-i.i c.as_slice-items.result.now c.loop-i-test.false) ∙ ap (rename_spine ξ) c.as_slice-items.ensures)
    c.from_vec.ensures
