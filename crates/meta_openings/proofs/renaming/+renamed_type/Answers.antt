use Rattle.std.proofs.Common.{arith, ap, ◌∙◌}
use Rattle.std.proofs.lemmas.Result.{IfOk-weaker}
use Rattle.lf_definitions.specs.Syntax.{types_size}
use Rattle.lf_terms.specs.TypeSizes.{binders_size}
use Rattle.lf_terms.specs.Types.{type_of}
use Rattle.lf_terms.proofs.TypeLists.{item_size}
use Rattle.meta_openings.proofs.Renamed.{type_within, more_renamed_binders, type_renamed}
use Rattle.meta_openings.proofs.renaming.+renamed_type.Goals as goal

pub returns-then-is_within : goal.returns-then-is_within
returns-then-is_within t c =
    let a = c.args in
    IfOk-weaker c.copy.result _ _
    (λ r same. same ∙ type_within a.before.now a.count a.depth (type_of a.ty.now) (c.is_within.ensures c.if-is_within.true))
    c.copy.ensures

pub renamed_type-requires : goal.renamed_type-requires
renamed_type-requires t c =
    let ty = c.args.ty.now in (
      omega (
        arith,
        c.decreases,
        binders_size ty.binders ty.family ty.args,
        ap types_size c.as_slice-items.ensures,
        item_size c.as_slice-items.result.now c.loop-i.i c.index-items-i.result c.loop-i-test.true c.index-items-i.is,
      ),
      c.requires,
    )

pub loop-i-preserved : goal.loop-i-preserved
loop-i-preserved t c =
    let a = c.args in
    more_renamed_binders a.before.now a.count a.depth c.as_slice-items.result.now _ _ c.loop-i.i c.index-items-i.result _ c.loop-i-test.true c.index-items-i.is c.in_ok-push.ensures.items
    c.in_ok-renamed_type.ensures c.loop-i.invariant

pub returns : goal.returns
returns t c =
    let a = c.args in
    type_renamed a.before.now a.count a.depth c.as_slice-items.result.now _ a.ty.now.binders _ c.loop-i.i a.ty.now.family a.ty.now.args c.in_ok-args.args (omega arith)
    c.as_slice-items.ensures c.in_ok-binders-2.ensures c.loop-i.invariant c.in_ok-args.ensures
