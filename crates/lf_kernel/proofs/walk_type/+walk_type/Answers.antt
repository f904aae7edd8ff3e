use Rattle.std.proofs.Common.{arith, sym, ap, subst, reverse, take}
use Rattle.std.proofs.lemmas.Result.{IfOk-weaker}
use Rattle.lf_definitions.specs.Syntax.{family, pis, types_size}
use Rattle.lf_definitions.specs.Typing.{with_context, Formed, FormedContext, formed_empty}
use Rattle.lf_definitions.specs.Failures.{FailsType, FailsContextFrom}
use Rattle.lf_definitions.specs.Signatures.{kinds_in}
use Rattle.lf_definitions.proofs.ShapedGoals.{ShapedTyping-with_context, ShapedContext-FormedContext}
use Rattle.lf_terms.specs.Types.{type_of, types_of}
use Rattle.lf_terms.specs.TypeSizes.{binders_size}
use Rattle.lf_terms.proofs.TypeLists.{item_size}
use Rattle.lf_kernel.specs.Heads.{typing_of}
use Rattle.lf_kernel.proofs.Paths.{reverse-step, well, ill}
use Rattle.lf_kernel.proofs.Binders.{formed_more, binder_fails, FailsType-binders, type_walk}
use Rattle.lf_kernel.proofs.walk_type.+walk_type.Goals as goal

pub walk_binders-loop-i-init : goal.walk_binders-loop-i-init
walk_binders-loop-i-init t c = formed_empty

pub walk_binders-walk_type-requires : goal.walk_binders-walk_type-requires
walk_binders-walk_type-requires t c =
    let a = c.args in (
      omega (arith, c.decreases, item_size a.binders.now c.loop-i.i c.index-binders-i.result c.loop-i-test.true c.index-binders-i.is),
      ShapedTyping-with_context (types_of (take c.loop-i.i a.binders.now)) (kinds_in a.place.now.sig.now) (typing_of a.place.now) c.requires (ShapedContext-FormedContext c.loop-i.invariant),
    )

pub walk_binders-returns-in-Some : goal.walk_binders-returns-in-Some
walk_binders-returns-in-Some t c =
    let a = c.args in
    let kinds = kinds_in a.place.now.sig.now in
    let Γ = typing_of a.place.now in
    let inside = with_context (types_of (take c.loop-i.i a.binders.now)) Γ in
    let ty = c.index-binders-i.result in
    let fails = ill (Formed kinds inside (type_of ty)) (FailsType kinds inside (type_of ty)) c.in_ok-walk_type.field-0 c.in-Some.path c.in-Some.is c.in_ok-walk_type.ensures in
    subst (FailsContextFrom kinds Γ (types_of a.binders.now) 0) (sym (reverse-step c.in-Some.path c.in_ok-step-in-Some.field-0 c.loop-i.i c.in_ok-step-in-Some.ensures))
    (binder_fails kinds Γ a.binders.now c.loop-i.i ty (reverse c.in-Some.path) c.loop-i-test.true c.index-binders-i.is c.loop-i.invariant fails)

pub walk_binders-loop-i-preserved : goal.walk_binders-loop-i-preserved
walk_binders-loop-i-preserved t c =
    let a = c.args in
    let kinds = kinds_in a.place.now.sig.now in
    let Γ = typing_of a.place.now in
    let inside = with_context (types_of (take c.loop-i.i a.binders.now)) Γ in
    let ty = c.index-binders-i.result in
    formed_more kinds Γ a.binders.now c.loop-i.i ty c.loop-i-test.true c.index-binders-i.is c.loop-i.invariant
    (well (Formed kinds inside (type_of ty)) (FailsType kinds inside (type_of ty)) c.in_ok-walk_type.field-0 c.in-None.is c.in_ok-walk_type.ensures)

pub walk_type-walk_binders-requires : goal.walk_type-walk_binders-requires
walk_type-walk_binders-requires t c =
    let ty = c.args.ty.now in
    (omega (arith, c.decreases, ap types_size c.as_slice-binders.ensures, binders_size ty.binders ty.family ty.args), c.requires)

pub walk_type-walk_family-requires : goal.walk_type-walk_family-requires
walk_type-walk_family-requires t c =
    let a = c.args in
    let kinds = kinds_in a.place.now.sig.now in
    let Γ = typing_of a.place.now in
    let bs = types_of c.as_slice-binders.result.now in
    let formed = well (FormedContext kinds Γ bs) (FailsContextFrom kinds Γ bs 0) c.in_ok-path.field-0 c.in-None.is c.in_ok-path.ensures in
    ShapedTyping-with_context bs kinds Γ c.requires (ShapedContext-FormedContext formed)

pub walk_type-returns-in-Some : goal.walk_type-returns-in-Some
walk_type-returns-in-Some t c =
    let a = c.args in
    let kinds = kinds_in a.place.now.sig.now in
    let Γ = typing_of a.place.now in
    let bs = types_of c.as_slice-binders.result.now in
    let end = family a.ty.now.family a.ty.now.args in
    let fails = ill (FormedContext kinds Γ bs) (FailsContextFrom kinds Γ bs 0) c.in_ok-path.field-0 c.in-Some.path c.in-Some.is c.in_ok-path.ensures in
    subst (λ binders. FailsType kinds Γ (pis binders end) (reverse c.in-Some.path)) c.as_slice-binders.ensures (FailsType-binders fails end)

pub walk_type-returns-in-None : goal.walk_type-returns-in-None
walk_type-returns-in-None t c =
    let a = c.args in
    let kinds = kinds_in a.place.now.sig.now in
    let Γ = typing_of a.place.now in
    let types = c.as_slice-binders.result.now in
    let end = family a.ty.now.family a.ty.now.args in
    let formed = well (FormedContext kinds Γ (types_of types)) (FailsContextFrom kinds Γ (types_of types) 0) c.in_ok-path.field-0 c.in-None.is c.in_ok-path.ensures in
    IfOk-weaker c.walk_family.result _ _ (λ r w. type_walk kinds Γ types a.ty.now.binders end c.as_slice-binders.ensures formed r w) c.walk_family.ensures
