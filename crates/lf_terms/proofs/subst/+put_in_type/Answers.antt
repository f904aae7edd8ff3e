use Rattle.std.proofs.Common.{arith, sym, ap, subst}
use Rattle.std.proofs.lemmas.Result.{IfOk-weaker}
use Rattle.lf_definitions.specs.Syntax.{family, types_size}
use Rattle.lf_definitions.specs.Substitution.{SubstitutedType}
use Rattle.lf_terms.specs.Putting.{putting}
use Rattle.lf_terms.specs.Types.{type_of}
use Rattle.lf_terms.proofs.Extents.{type_unchanged}
use Rattle.lf_terms.specs.Shapes.{simple_types_of}
use Rattle.lf_terms.specs.Terms.{spine_of}
use Rattle.lf_terms.specs.TypeSizes.{binders_size}
use Rattle.lf_terms.proofs.TypeLists.{item_size}
use Rattle.lf_terms.proofs.PuttingTypes.{puts_here, puts_later, puts_end, binder_put, type_put}
use Rattle.lf_terms.proofs.subst.+put_in_type.Goals as goal

pub put_in_type-requires : goal.put_in_type-requires
put_in_type-requires t c =
    let a = c.args in
    let images = a.images.now in
    let ty = a.ty.now in
    let items = c.as_slice-items.result.now in
    let x = c.index-items-i.result in (
      omega (
        arith,
        c.decreases,
        binders_size ty.binders ty.family ty.args,
        ap types_size c.as_slice-items.ensures,
        item_size items c.loop-i.i x c.loop-i-test.true c.index-items-i.is,
      ),
      puts_here (spine_of images.sub.now) (simple_types_of images.shapes.now) images.by a.depth items c.loop-i.i x (family ty.family ty.args) c.loop-i-test.true c.index-items-i.is
          c.loop-i.invariant.rest,
    )

pub loop-i-preserved : goal.loop-i-preserved
loop-i-preserved t c =
    let a = c.args in
    let images = a.images.now in
    let ty = a.ty.now in
    let items = c.as_slice-items.result.now in
    let x = c.index-items-i.result in
    record {
      rest =
          puts_later (spine_of images.sub.now) (simple_types_of images.shapes.now) images.by a.depth items c.loop-i.i x (family ty.family ty.args) c.loop-i-test.true c.index-items-i.is
          c.loop-i.invariant.rest;
      done =
          binder_put (spine_of images.sub.now) images.by a.depth c.loop-i.i items _ _ x c.in_ok-put_in_type.field-0 c.loop-i-test.true c.index-items-i.is c.in_ok-push.ensures.items
          c.loop-i.invariant.done c.in_ok-put_in_type.ensures;
    }

pub put_in_all-requires : goal.put_in_all-requires
put_in_all-requires t c =
    let a = c.args in
    let images = a.images.now in
    puts_end (spine_of images.sub.now) (simple_types_of images.shapes.now) images.by a.depth c.as_slice-items.result.now c.loop-i.i a.ty.now.family a.ty.now.args (omega arith) c.loop-i.invariant.rest

pub returns : goal.returns
returns t c =
    let a = c.args in
    let images = a.images.now in
    type_put (spine_of images.sub.now) images.by a.depth c.loop-i.i c.as_slice-items.result.now a.ty.now.binders _ _ a.ty.now.family a.ty.now.args c.in_ok-args.args (omega arith)
    c.as_slice-items.ensures c.in_ok-binders-2.ensures c.loop-i.invariant.done c.in_ok-args.ensures

pub returns-then-is_within : goal.returns-then-is_within
returns-then-is_within t c =
    let a = c.args in
    let images = a.images.now in
    let σ = putting (spine_of images.sub.now) images.by a.depth in
    IfOk-weaker c.copy.result _ _
    (λ r same. subst (SubstitutedType σ (type_of a.ty.now)) (sym same) (type_unchanged (spine_of images.sub.now) images.by a.depth (type_of a.ty.now) (c.is_within.ensures c.if-is_within.true)))
    c.copy.ensures
