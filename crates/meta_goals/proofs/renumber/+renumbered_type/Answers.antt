use Rattle.std.proofs.Common.{ap, ◌∙◌, take_all, arith}
use Rattle.std.proofs.lemmas.Result.{IfOk-weaker}
use Rattle.lf_definitions.specs.Syntax.{types_size}
use Rattle.lf_definitions.specs.Renaming.{rename_context}
use Rattle.lf_definitions.specs.Instantiation.{metavariables}
use Rattle.head_laws.specs.Renumbering.{place_of_number}
use Rattle.lf_terms.specs.Types.{types_of}
use Rattle.lf_terms.specs.TypeSizes.{binders_size}
use Rattle.lf_terms.proofs.TypeLists.{item_size}
use Rattle.meta_goals.proofs.Renumbered.{context_kept, type_renamed, one_more_type_renamed}
use Rattle.meta_goals.proofs.renumber.+renumbered_type.Goals as goal

pub renumbered_type-renumbered_types-requires : goal.renumbered_type-renumbered_types-requires
renumbered_type-renumbered_types-requires t c =
    let ty = c.args.ty.now in
    (omega (arith, c.decreases, binders_size ty.binders ty.family ty.args), tt)

pub renumbered_type-returns : goal.renumbered_type-returns
renumbered_type-returns t c =
    let ty = c.args.ty.now in
    type_renamed (place_of_number c.args.places.now) ty.binders c.in_ok-binders.binders ty.family ty.args c.in_ok-args.args c.in_ok-binders.ensures c.in_ok-args.ensures

pub renumbered_types-returns-then-not-has_metas : goal.renumbered_types-returns-then-not-has_metas
renumbered_types-returns-then-not-has_metas t c =
    IfOk-weaker c.copy.result _ _ (λ r e. e ∙ context_kept (place_of_number c.args.places.now) c.args.types.now (c.has_metas.ensures c.if-not-has_metas.true)) c.copy.ensures

pub renumbered_types-renumbered_type-requires : goal.renumbered_types-renumbered_type-requires
renumbered_types-renumbered_type-requires t c =
    (omega (arith, c.decreases, ap types_size c.as_slice-items.ensures, item_size c.as_slice-items.result.now c.loop-i.i c.index-items-i.result c.loop-i-test.true c.index-items-i.is), tt)

pub renumbered_types-loop-i-preserved : goal.renumbered_types-loop-i-preserved
renumbered_types-loop-i-preserved t c =
    one_more_type_renamed (place_of_number c.args.places.now) c.as_slice-items.result.now c.loop-i.results.items c.push.new.self.items c.loop-i.i c.index-items-i.result c.in_ok-renumbered_type.field-0
    c.loop-i-test.true c.index-items-i.is c.in_ok-push.ensures.items c.loop-i.invariant c.in_ok-renumbered_type.ensures

pub renumbered_types-returns : goal.renumbered_types-returns
renumbered_types-returns t c =
    let ξ = metavariables (place_of_number c.args.places.now) in
    IfOk-weaker c.from_vec.result _ _
    (λ r e. e ∙ c.loop-i.invariant ∙ ap (λ l. rename_context ξ (types_of l)) (take_all c.loop-i.i c.as_slice-items.result.now c.loop-i-test.false) ∙ ap (rename_context ξ) c.as_slice-items.ensures)
    c.from_vec.ensures
