use Rattle.std.proofs.lemmas.Result.{IfOk-weaker}
use Rattle.lf_terms.specs.Shapes.{simple_types_of}
use Rattle.lf_terms.specs.Terms.{spine_of}
use Rattle.lf_terms.proofs.Putting.{args_stay_shaped}
use Rattle.lf_terms.proofs.subst.put_all.Goals as goal

pub returns-clause-shaped : goal.returns-clause-shaped
returns-clause-shaped c =
    let a = c.args in
    IfOk-weaker c.put_in_all.result _ _ (λ r p. args_stay_shaped (spine_of a.sub.now) (simple_types_of a.shapes.now) a.by 0 a.terms.now r p) c.put_in_all.ensures
