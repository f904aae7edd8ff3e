use Rattle.std.proofs.Common.{◌≡◌, ◌++◌, ap, subst, arith}
use Rattle.std.specs.Prelude.{IfSome}
use Rattle.lf_definitions.specs.Syntax.{shapes_of_types, types_size}
use Rattle.lf_definitions.specs.Shaping.{globals}
use Rattle.lf_definitions.specs.ShapedGoals.{ShapedContext}
use Rattle.lf_terms.specs.Shapes.{simple_type_of}
use Rattle.lf_terms.specs.TypeSizes.{binders_size}
use Rattle.lf_terms.proofs.TypeLists.{item_size}
use Rattle.goals_tests.specs.Settings.{scope_of, kinds_of}
use Rattle.goals_tests.proofs.Scopes.{none_shaped, one_more_shaped, all_shaped, shaped_over}
use Rattle.goals_tests.proofs.shapes.+is_shaped_type.Goals as goal

pub is_shaped_type-scope_after-requires : goal.is_shaped_type-scope_after-requires
is_shaped_type-scope_after-requires t c =
    let ty = c.args.ty.now in
    (omega (arith, c.decreases, binders_size ty.binders ty.family ty.args), tt)

pub scope_after-is_shaped_type-requires : goal.scope_after-is_shaped_type-requires
scope_after-is_shaped_type-requires t c =
    (omega (arith, c.decreases, ap types_size c.as_slice-items.ensures, item_size c.as_slice-items.result.now c.loop-i.i c.index-items-i.result c.loop-i-test.true c.index-items-i.is), tt)

pub scope_after-loop-i-init : goal.scope_after-loop-i-init
scope_after-loop-i-init t c =
    let setting = c.args.setting.now in
    none_shaped (kinds_of setting) (globals setting.constants setting.metas) c.args.variables.now c.in_ok-inside.inside c.as_slice-items.result.now c.in_ok-inside.ensures

pub scope_after-loop-i-preserved : goal.scope_after-loop-i-preserved
scope_after-loop-i-preserved t c =
    let setting = c.args.setting.now in
    one_more_shaped (kinds_of setting) (globals setting.constants setting.metas) c.args.variables.now c.loop-i.inside c.push.new.self c.as_slice-items.result.now c.loop-i.i c.index-items-i.result (simple_type_of c.in_ok-shape_of.field-0) c.loop-i-test.true c.index-items-i.is
    c.loop-i.invariant (c.in_ok-fits.ensures c.if-not-fits.false) c.in_ok-shape_of.ensures c.in_ok-push.ensures.ok

pub scope_after-returns-clause-shapes : goal.scope_after-returns-clause-shapes
scope_after-returns-clause-shapes t c =
    let setting = c.args.setting.now in
    (all_shaped (kinds_of setting) (globals setting.constants setting.metas) c.args.variables.now c.loop-i.inside c.as_slice-items.result.now c.args.types.now c.loop-i.i c.loop-i-test.false c.as_slice-items.ensures c.loop-i.invariant).0

pub scope_after-returns-clause-context : goal.scope_after-returns-clause-context
scope_after-returns-clause-context t c =
    let setting = c.args.setting.now in
    (all_shaped (kinds_of setting) (globals setting.constants setting.metas) c.args.variables.now c.loop-i.inside c.as_slice-items.result.now c.args.types.now c.loop-i.i c.loop-i-test.false c.as_slice-items.ensures c.loop-i.invariant).1

pub is_shaped_type-returns-in_ok-is_shaped_atom-in-Some : goal.is_shaped_type-returns-in_ok-is_shaped_atom-in-Some
is_shaped_type-returns-in_ok-is_shaped_atom-in-Some t c =
    let setting = c.args.setting.now in
    let variables = c.args.variables.now in
    let ty = c.args.ty.now in
    λ holds.
    shaped_over (kinds_of setting) (globals setting.constants setting.metas) variables c.in-Some.inside ty.binders ty.family ty.args
    (subst (λ found. IfSome found (λ inside. inside ≡ variables ++ shapes_of_types ty.binders)) c.in-Some.is c.in_ok-scope_after.ensures.shapes)
    (subst (λ found. IfSome found (λ inside. ShapedContext (kinds_of setting) (scope_of setting variables) ty.binders)) c.in-Some.is c.in_ok-scope_after.ensures.context)
    (c.in_ok-is_shaped_atom-in-Some.ensures holds)
