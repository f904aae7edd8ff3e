use Rattle.std.proofs.Common.{length, sym, ap, arith}
use Rattle.lf_definitions.specs.Syntax.{types_size}
use Rattle.lf_terms.specs.Types.{type_of}
use Rattle.lf_terms.specs.TypeSizes.{binders_size}
use Rattle.lf_terms.proofs.TypeLists.{length-types_of, item_size}
use Rattle.build_shared.proofs.OccurringVariables.{none_within_type, in_binders, in_arguments, found_there, not_there, nowhere}
use Rattle.build_shared.proofs.variables.+occurs_in_type.Goals as goal

pub occurs_in_type-returns-then-is_within : goal.occurs_in_type-returns-then-is_within
occurs_in_type-returns-then-is_within t c = sym (none_within_type c.args.number (type_of c.args.ty.now) (c.is_within.ensures c.if-is_within.true))

pub occurs_in_type-occurs_in_types-requires : goal.occurs_in_type-occurs_in_types-requires
occurs_in_type-occurs_in_types-requires t c =
    let ty = c.args.ty.now in
    (omega (arith, c.decreases, ap types_size c.as_slice-binders.ensures, binders_size ty.binders ty.family ty.args), tt)

pub occurs_in_type-returns-then-early : goal.occurs_in_type-returns-then-early
occurs_in_type-returns-then-early t c =
    let ty = c.args.ty.now in
    in_binders c.args.number ty.binders ty.family ty.args c.as_slice-binders.result.now c.in_ok-early.early c.as_slice-binders.ensures c.in_ok-early.ensures c.if-early.true

pub occurs_in_type-returns : goal.occurs_in_type-returns
occurs_in_type-returns t c =
    let ty = c.args.ty.now in
    let types = c.as_slice-binders.result.now in
    let counts = ap length c.as_slice-binders.ensures in
    in_arguments c.args.number ty.binders ty.family ty.args types c.in_ok-early.early c.in_ok-inside.inside c.in_ok-later.later c.as_slice-binders.ensures c.in_ok-early.ensures c.if-early.false
    (omega (arith, c.in_ok-inside.ensures, counts, length-types_of types)) c.in_ok-later.ensures

pub occurs_in_types-occurs_in_type-requires : goal.occurs_in_types-occurs_in_type-requires
occurs_in_types-occurs_in_type-requires t c = (omega (arith, c.decreases, item_size c.args.types.now c.loop-i.i c.index-types-i.result c.loop-i-test.true c.index-types-i.is), tt)

pub occurs_in_types-returns-then-occurs : goal.occurs_in_types-returns-then-occurs
occurs_in_types-returns-then-occurs t c =
    found_there c.args.number c.args.types.now c.loop-i.i c.index-types-i.result c.in_ok-inside.inside c.in_ok-occurs.occurs _ c.loop-i-test.true c.index-types-i.is c.in_ok-inside.ensures c.in_ok-occurs.ensures
    c.if-occurs.true c.loop-i.invariant

pub occurs_in_types-loop-i-preserved : goal.occurs_in_types-loop-i-preserved
occurs_in_types-loop-i-preserved t c =
    not_there c.args.number c.args.types.now c.loop-i.i c.index-types-i.result c.in_ok-inside.inside c.in_ok-occurs.occurs _ c.loop-i-test.true c.index-types-i.is c.in_ok-inside.ensures c.in_ok-occurs.ensures
    c.if-occurs.false c.loop-i.invariant

pub occurs_in_types-returns : goal.occurs_in_types-returns
occurs_in_types-returns t c = nowhere c.args.number c.args.types.now c.loop-i.i _ c.loop-i-test.false c.loop-i.invariant
