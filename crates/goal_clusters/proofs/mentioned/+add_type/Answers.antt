use Rattle.std.proofs.Common.{ap, arith}
use Rattle.std.proofs.lemmas.Result.{on_ok_weaker}
use Rattle.lf_definitions.specs.Syntax.{types_size}
use Rattle.lf_terms.proofs.TypeLists.{item_size}
use Rattle.lf_terms.specs.TypeSizes.{binders_size}
use Rattle.goal_clusters.proofs.Mentioning.{nothing_in_context, one_more_type, binders_and_args}
use Rattle.goal_clusters.proofs.mentioned.+add_type.Goals as goal

pub add_type-add_types-requires : goal.add_type-add_types-requires
add_type-add_types-requires t c =
    let ty = c.args.ty.now in
    (omega (arith, c.decreases, binders_size ty.binders ty.family ty.args), tt)

pub add_type-returns : goal.add_type-returns
add_type-returns t c =
    let ty = c.args.ty.now in
    on_ok_weaker c.add_terms.result
    (binders_and_args ty.binders ty.family ty.args c.args.numbers.now.items c.add_types.new.numbers.items c.add_terms.new.numbers.items c.in_ok-add_types.ensures) c.add_terms.ensures

pub add_types-returns-then-not-has_metas : goal.add_types-returns-then-not-has_metas
add_types-returns-then-not-has_metas t c = nothing_in_context c.args.types.now c.args.numbers.now.items (c.has_metas.ensures c.if-not-has_metas.true)

pub add_types-add_type-requires : goal.add_types-add_type-requires
add_types-add_type-requires t c =
    (omega (arith, c.decreases, ap types_size c.as_slice-items.ensures, item_size c.as_slice-items.result.now c.loop-i.i c.index-items-i.result c.loop-i-test.true c.index-items-i.is), tt)

pub add_types-loop-i-preserved : goal.add_types-loop-i-preserved
add_types-loop-i-preserved t c =
    one_more_type c.as_slice-items.result.now c.loop-i.i c.index-items-i.result c.args.numbers.now.items c.loop-i.numbers.items c.add_type.new.numbers.items c.loop-i-test.true c.index-items-i.is
    c.loop-i.invariant c.in_ok-add_type.ensures
