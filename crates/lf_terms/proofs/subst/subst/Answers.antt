use Rattle.std.proofs.Common.{sym, subst, subst₂}
use Rattle.std.proofs.lemmas.Result.{IfOk-weaker}
use Rattle.lf_definitions.specs.Shaping.{globals}
use Rattle.lf_definitions.specs.Substitution.{Substituted}
use Rattle.lf_terms.specs.Putting.{putting, Puts, TermShaped}
use Rattle.lf_terms.specs.Shapes.{simple_type_of}
use Rattle.lf_terms.specs.Terms.{term_of}
use Rattle.lf_terms.proofs.Putting.{puts_start, put_shaped}
use Rattle.lf_terms.proofs.subst.subst.Goals as goal

pub put_in-requires : goal.put_in-requires
put_in-requires c =
    let a = c.args in
    subst₂ (λ sub inner. Puts sub inner 0 0 (TermShaped (term_of a.term.now))) (sym c.as_slice-2.ensures) (sym c.as_slice.ensures)
    (puts_start (globals a.sig.now a.metas.now) a.outer.now a.inner.now a.sub.now (term_of a.term.now) (simple_type_of a.shape.now) c.requires.term_shaped c.requires.sub_shaped)

pub returns-clause-result : goal.returns-clause-result
returns-clause-result c =
    IfOk-weaker c.put_in.result _ _ (λ r p. subst (λ sub. Substituted (putting sub 0 0) (term_of c.args.term.now) (term_of r)) c.as_slice-2.ensures p) c.put_in.ensures

pub returns-clause-shaped : goal.returns-clause-shaped
returns-clause-shaped c =
    let a = c.args in
    IfOk-weaker c.put_in.result _ _
    (λ r p. put_shaped (globals a.sig.now a.metas.now) a.outer.now a.inner.now a.sub.now (term_of a.term.now) (term_of r) (simple_type_of a.shape.now) c.requires.term_shaped c.requires.sub_shaped
    (subst (λ sub. Substituted (putting sub 0 0) (term_of a.term.now) (term_of r)) c.as_slice-2.ensures p))
    c.put_in.ensures
