use Rattle.std.proofs.lemmas.Result.{IfOk-weaker}
use Rattle.lf_terms.specs.Shapes.{simple_types_of}
use Rattle.lf_terms.specs.Terms.{term_of, spine_of}
use Rattle.lf_terms.proofs.Putting.{term_stays_shaped}
use Rattle.lf_terms.proofs.subst.put.Goals as goal

pub returns-clause-shaped : goal.returns-clause-shaped
returns-clause-shaped c =
    let a = c.args in
    IfOk-weaker c.put_in.result _ _ (λ r p. term_stays_shaped (spine_of a.sub.now) (simple_types_of a.shapes.now) a.by 0 (term_of a.term.now) (term_of r) p) c.put_in.ensures
