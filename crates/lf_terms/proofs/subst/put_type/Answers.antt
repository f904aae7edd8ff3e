use Rattle.std.proofs.lemmas.Result.{IfOk-weaker}
use Rattle.lf_terms.specs.Shapes.{simple_types_of}
use Rattle.lf_terms.specs.Terms.{spine_of}
use Rattle.lf_terms.specs.Types.{type_of}
use Rattle.lf_terms.proofs.Putting.{type_stays_shaped}
use Rattle.lf_terms.proofs.subst.put_type.Goals as goal

pub returns-clause-shaped : goal.returns-clause-shaped
returns-clause-shaped c =
    let a = c.args in
    IfOk-weaker c.put_in_type.result _ _ (λ r p. type_stays_shaped (spine_of a.sub.now) (simple_types_of a.shapes.now) a.by 0 (type_of a.ty.now) (type_of r) p) c.put_in_type.ensures
