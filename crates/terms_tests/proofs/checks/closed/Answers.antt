use Rattle.std.proofs.Common.{subst}
use Rattle.lf_definitions.specs.Signatures.{kinds_in, typing_in}
use Rattle.lf_definitions.proofs.ShapedGoals.{shapes_of-typing_in}
use Rattle.lf_definitions.proofs.Typing.{ShapedType-Formed}
use Rattle.lf_definitions.specs.Shaping.{ShapedType}
use Rattle.lf_definitions.specs.ShapedGoals.{kind_shapes_in}
use Rattle.lf_terms.specs.Types.{type_of}
use Rattle.lf_kernel.specs.Checks.{ChecksType}
use Rattle.lf_kernel.proofs.Openings.{empty_context, no_goals_shaped}
use Rattle.terms_tests.proofs.checks.closed.Goals as goal

pub check_type-requires-clause-goals : goal.check_type-requires-clause-goals
check_type-requires-clause-goals c = no_goals_shaped c.args.sig.now c.new-metas.result c.new-metas.ensures

pub check_type-requires-clause-context : goal.check_type-requires-clause-context
check_type-requires-clause-context c = empty_context c.args.sig.now c.new-metas.result c.new-ctx.result c.new-ctx.ensures

pub check-requires-clause-goals : goal.check-requires-clause-goals
check-requires-clause-goals c = no_goals_shaped c.args.sig.now c.new-metas.result c.new-metas.ensures

pub check-requires-clause-context : goal.check-requires-clause-context
check-requires-clause-context c = empty_context c.args.sig.now c.new-metas.result c.new-ctx.result c.new-ctx.ensures

pub check-requires-clause-expected : goal.check-requires-clause-expected
check-requires-clause-expected c =
    let sig = c.args.sig.now in
    let goals = c.new-metas.result in
    let ctx = c.new-ctx.result in
    let a = type_of c.args.ty.now in
    subst (λ Δ. ShapedType (kind_shapes_in sig) Δ a) (shapes_of-typing_in sig goals ctx)
    (ShapedType-Formed (subst (ChecksType (kinds_in sig) (typing_in sig goals ctx) a) c.in-Well.is c.in_ok-check_type.ensures))
