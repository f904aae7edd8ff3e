use Rattle.std.proofs.Common.{sym, ◌∙◌, arith}
use Rattle.std.proofs.lemmas.List.{length-take-le}
use Rattle.meta_openings.specs.Results.{opened_type_of}
use Rattle.build_shared.proofs.AtPlaces.{within_types, within_shapes, within_terms, argument_puts, argument_is_type}
use Rattle.build_shared.proofs.arguments.argument_type.Goals as goal

pub bounds-binders-k : goal.bounds-binders-k
bounds-binders-k c =
    let a = c.args in
    let ty = a.ty.now in
    within_types ty.binders ty.family ty.args (opened_type_of a.opened.now) a.k c.requires.shaped c.requires.atomic c.as_slice-binders.result.now c.as_slice-items.result.now c.as_slice-terms.result.now
    c.as_slice-binders.ensures (c.as_slice-items.ensures ∙ c.in_ok-shapes.ensures) c.as_slice-terms.ensures

pub offset_bounds-binders-k : goal.offset_bounds-binders-k
offset_bounds-binders-k c =
    let a = c.args in
    let ty = a.ty.now in
    let low = within_types ty.binders ty.family ty.args (opened_type_of a.opened.now) a.k c.requires.shaped c.requires.atomic c.as_slice-binders.result.now c.as_slice-items.result.now c.as_slice-terms.result.now
    c.as_slice-binders.ensures (c.as_slice-items.ensures ∙ c.in_ok-shapes.ensures) c.as_slice-terms.ensures in
    omega (arith, low)

pub slice_bounds-put_all-end : goal.slice_bounds-put_all-end
slice_bounds-put_all-end c =
    let a = c.args in
    let ty = a.ty.now in
    sym (length-take-le a.k c.as_slice-items.result.now
    (within_shapes ty.binders ty.family ty.args (opened_type_of a.opened.now) a.k c.requires.shaped c.requires.atomic c.as_slice-binders.result.now c.as_slice-items.result.now c.as_slice-terms.result.now
    c.as_slice-binders.ensures (c.as_slice-items.ensures ∙ c.in_ok-shapes.ensures) c.as_slice-terms.ensures))

pub slice_bounds-put_all-end-2 : goal.slice_bounds-put_all-end-2
slice_bounds-put_all-end-2 c =
    let a = c.args in
    let ty = a.ty.now in
    sym (length-take-le a.k c.as_slice-terms.result.now
    (within_terms ty.binders ty.family ty.args (opened_type_of a.opened.now) a.k c.requires.shaped c.requires.atomic c.as_slice-binders.result.now c.as_slice-items.result.now c.as_slice-terms.result.now
    c.as_slice-binders.ensures (c.as_slice-items.ensures ∙ c.in_ok-shapes.ensures) c.as_slice-terms.ensures))

pub put_all-requires : goal.put_all-requires
put_all-requires c =
    let a = c.args in
    let ty = a.ty.now in
    argument_puts ty.binders ty.family ty.args (opened_type_of a.opened.now) a.k c.requires.shaped c.requires.atomic c.as_slice-binders.result.now c.as_slice-items.result.now c.as_slice-terms.result.now
    c.as_slice-binders.ensures (c.as_slice-items.ensures ∙ c.in_ok-shapes.ensures) c.as_slice-terms.ensures c.index-binders-k.result c.index-binders-k.is

pub returns : goal.returns
returns c =
    let a = c.args in
    let ty = a.ty.now in
    argument_is_type ty.binders ty.family ty.args (opened_type_of a.opened.now) a.k c.requires.shaped c.requires.atomic c.as_slice-binders.result.now c.as_slice-items.result.now c.as_slice-terms.result.now
    c.as_slice-binders.ensures (c.as_slice-items.ensures ∙ c.in_ok-shapes.ensures) c.as_slice-terms.ensures c.index-binders-k.result c.index-binders-k.is c.in_ok-args.args c.in_ok-args.ensures.result
