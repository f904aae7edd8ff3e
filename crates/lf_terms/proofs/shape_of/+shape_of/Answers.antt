use Rattle.std.proofs.Common.{arith, sym, ap, ◌∙◌}
use Rattle.lf_definitions.specs.Syntax.{arrows, base, types_size}
use Rattle.lf_definitions.proofs.Typing.{shape_of-pis}
use Rattle.lf_terms.specs.TypeSizes.{binders_size}
use Rattle.lf_terms.proofs.TypeLists.{item_size}
use Rattle.lf_terms.proofs.ShapeLists.{shape_more}
use Rattle.lf_terms.proofs.shape_of.+shape_of.Goals as goal

pub shape_of-shapes_of-requires : goal.shape_of-shapes_of-requires
shape_of-shapes_of-requires t c =
    let ty = c.args.ty.now in
    (omega (arith, c.decreases, binders_size ty.binders ty.family ty.args), tt)

pub shape_of-returns : goal.shape_of-returns
shape_of-returns t c =
    let ty = c.args.ty.now in
    ap (λ l. arrows l base) c.in_ok-args.ensures ∙ sym (shape_of-pis ty.binders ty.family ty.args)

pub shapes_of-shape_of-requires-in-loop-ty : goal.shapes_of-shape_of-requires-in-loop-ty
shapes_of-shape_of-requires-in-loop-ty t c = (
  omega (
    arith,
    c.decreases,
    ap types_size c.as_slice-items.ensures,
    item_size c.as_slice-items.result.now c.loop-ty.ty-index c.ty-item.result c.loop-ty-test.true c.ty-item.is,
  ),
  tt,
)

pub shapes_of-loop-ty-preserved : goal.shapes_of-loop-ty-preserved
shapes_of-loop-ty-preserved t c =
    shape_more c.as_slice-items.result.now _ _ c.loop-ty.ty-index c.ty-item.result _ c.loop-ty-test.true c.ty-item.is c.in_ok-push.ensures.items c.loop-ty.invariant c.in_ok-shape_of.ensures
