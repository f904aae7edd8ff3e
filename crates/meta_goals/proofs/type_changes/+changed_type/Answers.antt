use Rattle.std.proofs.Common.{sym, ap, subst, subst₂, arith, unwrap_or, option_map}
use Rattle.std.proofs.lemmas.Result.{IfOk-weaker}
use Rattle.lf_definitions.specs.Syntax.{types_size}
use Rattle.lf_definitions.specs.Substitution.{substituted_empty}
use Rattle.lf_definitions.specs.Instantiation.{InstantiatedType, InstantiatedContext}
use Rattle.lf_terms.specs.Types.{type_of, types_of}
use Rattle.lf_terms.specs.TypeSizes.{binders_size}
use Rattle.lf_terms.proofs.TypeLists.{item_size}
use Rattle.meta_goals.specs.Bindings.{assigning}
use Rattle.meta_goals.specs.Instantiates.{Instantiates, TypeIsShaped, ContextIsShaped}
use Rattle.meta_goals.proofs.ChangedTypes.{instantiates_entry, instantiates_binders, instantiates_family, context_without, type_instantiated, one_more_type, one_more_type_stays, first_type_change}
use Rattle.meta_goals.proofs.type_changes.+changed_type.Goals as goal

pub changed_type-changed_types-requires : goal.changed_type-changed_types-requires
changed_type-changed_types-requires t c =
    let ty = c.args.ty.now in
    (omega (arith, c.decreases, binders_size ty.binders ty.family ty.args), instantiates_binders c.args.assign.now ty.binders ty.family ty.args c.requires)

pub changed_type-changed_all-requires : goal.changed_type-changed_all-requires
changed_type-changed_all-requires t c =
    let ty = c.args.ty.now in
    instantiates_family c.args.assign.now ty.binders ty.family ty.args c.requires

pub changed_type-returns : goal.changed_type-returns
changed_type-returns t c =
    let a = c.args in
    let ty = a.ty.now in
    IfOk-weaker c.with_parts.result _ _
    (λ r e. subst (InstantiatedType (assigning a.assign.now) (type_of ty)) (sym e)
    (type_instantiated a.assign.now (TypeIsShaped (type_of ty)) c.requires ty.binders (unwrap_or c.in_ok-binders.binders ty.binders) ty.family ty.args (unwrap_or c.in_ok-args.args ty.args)
    c.in_ok-binders.ensures c.in_ok-args.ensures))
    c.with_parts.ensures

pub changed_types-returns-then-not-has_metas : goal.changed_types-returns-then-not-has_metas
changed_types-returns-then-not-has_metas t c = context_without c.args.assign.now c.args.types.now (c.has_metas.ensures c.if-not-has_metas.true)

pub changed_types-loop-i-init : goal.changed_types-loop-i-init
changed_types-loop-i-init t c = substituted_empty

pub changed_types-changed_type-requires : goal.changed_types-changed_type-requires
changed_types-changed_type-requires t c =
    let a = c.args in
    let items = c.as_slice-items.result.now in
    let x = c.index-items-i.result in (
      omega (arith, c.decreases, ap types_size c.as_slice-items.ensures, item_size items c.loop-i.i x c.loop-i-test.true c.index-items-i.is),
      instantiates_entry a.assign.now items c.loop-i.i x c.loop-i-test.true c.index-items-i.is (subst (λ ts. Instantiates a.assign.now (ContextIsShaped ts)) (sym c.as_slice-items.ensures) c.requires),
    )

pub changed_types-changed_types_from-requires : goal.changed_types-changed_types_from-requires
changed_types-changed_types_from-requires t c =
    let a = c.args in
    let σ = assigning a.assign.now in
    let items = c.as_slice-items.result.now in
    let x = c.index-items-i.result in (
      omega (arith, c.decreases, ap types_size c.as_slice-items.ensures),
      (
        subst (λ ts. Instantiates a.assign.now (ContextIsShaped ts)) (sym c.as_slice-items.ensures) c.requires,
        first_type_change a.assign.now (ContextIsShaped a.types.now) c.requires items c.loop-i.i x c.loop-i-test.true c.index-items-i.is c.in_ok-results.results.items c.push.new.self.items c.in-Some.other
            c.in_ok-push.ensures.items c.in_ok-results.ensures c.loop-i.invariant
            (subst (λ o. InstantiatedType σ (type_of x) (unwrap_or (option_map type_of o) (type_of x))) c.in-Some.is c.in_ok-other.ensures),
      ),
    )

pub changed_types-loop-i-preserved : goal.changed_types-loop-i-preserved
changed_types-loop-i-preserved t c =
    let a = c.args in
    let σ = assigning a.assign.now in
    let x = c.index-items-i.result in
    one_more_type_stays a.assign.now (ContextIsShaped a.types.now) c.requires c.as_slice-items.result.now c.loop-i.i x c.loop-i-test.true c.index-items-i.is c.loop-i.invariant
    (subst (λ o. InstantiatedType σ (type_of x) (unwrap_or (option_map type_of o) (type_of x))) c.in_default.is c.in_ok-other.ensures)

pub changed_types-returns-in-Some : goal.changed_types-returns-in-Some
changed_types-returns-in-Some t c = subst₂ (InstantiatedContext (assigning c.args.assign.now)) c.as_slice-items.ensures (sym c.in_ok-from_vec.ensures) c.in_ok-results-2.ensures

pub changed_types_from-changed_type-requires : goal.changed_types_from-changed_type-requires
changed_types_from-changed_type-requires t c =
    let a = c.args in
    let x = c.index-items-i.result in (
      omega (arith, c.decreases, item_size a.items.now c.loop-i.i x c.loop-i-test.true c.index-items-i.is),
      instantiates_entry a.assign.now a.items.now c.loop-i.i x c.loop-i-test.true c.index-items-i.is c.requires.shaped,
    )

pub changed_types_from-loop-i-preserved : goal.changed_types_from-loop-i-preserved
changed_types_from-loop-i-preserved t c =
    let a = c.args in
    let σ = assigning a.assign.now in
    let x = c.index-items-i.result in
    one_more_type a.assign.now (ContextIsShaped (types_of a.items.now)) c.requires.shaped a.items.now c.loop-i.i x c.loop-i-test.true c.index-items-i.is c.loop-i.results.items c.push.new.self.items
    c.in_ok-type_or.field-0 c.in_ok-push.ensures.items c.loop-i.invariant (subst (InstantiatedType σ (type_of x)) (sym c.in_ok-type_or.ensures) c.in_ok-change.ensures)
