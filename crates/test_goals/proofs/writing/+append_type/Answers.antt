use Rattle.std.proofs.Common.{ap, arith}
use Rattle.lf_definitions.specs.Syntax.{types_size}
use Rattle.lf_terms.specs.TypeSizes.{binders_size}
use Rattle.lf_terms.proofs.TypeLists.{item_size}
use Rattle.test_goals.proofs.writing.+append_type.Goals as goal

pub append_type-append_binders-requires : goal.append_type-append_binders-requires
append_type-append_binders-requires t c =
    let ty = c.args.ty.now in
    (omega (arith, c.decreases, binders_size ty.binders ty.family ty.args), tt)

pub append_binders-append_type-requires : goal.append_binders-append_type-requires
append_binders-append_type-requires t c =
    (omega (arith, c.decreases, ap types_size c.as_slice-items.ensures, item_size c.as_slice-items.result.now c.loop-i.i c.index-items-i.result c.loop-i-test.true c.index-items-i.is), tt)
