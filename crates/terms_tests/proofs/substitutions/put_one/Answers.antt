use Rattle.lf_definitions.specs.Shaping.{shapes_in}
use Rattle.lf_terms.specs.Terms.{term_of}
use Rattle.lf_terms.specs.Shapes.{simple_type_of}
use Rattle.lf_terms.proofs.Putting.{one_shaped}
use Rattle.terms_tests.proofs.substitutions.put_one.Goals as goal

pub subst-requires-clause-sub_shaped : goal.subst-requires-clause-sub_shaped
subst-requires-clause-sub_shaped c =
    one_shaped (shapes_in c.args.sig.now c.new-metas.result c.new-outer.result) c.in_ok-sub.sub c.in_ok-inner.inner (term_of c.args.put) (simple_type_of c.args.shape)
    c.in_ok-sub.ensures c.in_ok-inner.ensures (c.shaped.ensures.0 c.if-not-shaped.false)
