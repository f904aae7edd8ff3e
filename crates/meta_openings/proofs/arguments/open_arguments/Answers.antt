use Rattle.std.proofs.Common.{◌<◌, [], All, None, length, map, arith, sym, ap, ◌∙◌, subst, subst₂}
use Rattle.std.proofs.lemmas.List.{get_or_read, length-take-le}
use Rattle.lf_definitions.specs.Syntax.{no_args, pis, family, shapes_of_types}
use Rattle.lf_terms.specs.Targets.{goal_of}
use Rattle.lf_terms.specs.Terms.{spine_of}
use Rattle.lf_terms.specs.Types.{type_of, types_of}
use Rattle.lf_terms.proofs.ShapeLists.{length-simple_types_of}
use Rattle.lf_terms.proofs.TypeLists.{length-types_of}
use Rattle.typing_laws.proofs.Binders.{length-shapes_of_types}
use Rattle.meta_openings.specs.Arguments.{IsLeft}
use Rattle.meta_openings.proofs.NextArgument.{argument_more, argument_asks, arguments_end}
use Rattle.meta_openings.proofs.arguments.open_arguments.Goals as goal

pub fixed_places-requires : goal.fixed_places-requires
fixed_places-requires c =
    let counts = sym (ap length c.as_slice-types.ensures) ∙ length-types_of c.as_slice-types.result.now in
    subst (λ n. All (λ pair. pair.0 < n) c.args.fixed.now) counts c.requires.fixed

pub slice_bounds-open_argument-end : goal.slice_bounds-open_argument-end
slice_bounds-open_argument-end c =
    let types = c.as_slice-types.result.now in
    let items = c.as_slice-items.result.now in
    let counts = sym (length-simple_types_of items) ∙ ap length (c.as_slice-items.ensures ∙ c.requires.shapes ∙ ap shapes_of_types (sym c.as_slice-types.ensures)) ∙ length-shapes_of_types (types_of types) ∙ length-types_of types in
    sym (length-take-le c.loop-i.i items (omega (arith, counts, c.loop-i-test.true)))

pub bounds-items-i : goal.bounds-items-i
bounds-items-i c =
    let types = c.as_slice-types.result.now in
    let items = c.as_slice-items.result.now in
    let counts = sym (length-simple_types_of items) ∙ ap length (c.as_slice-items.ensures ∙ c.requires.shapes ∙ ap shapes_of_types (sym c.as_slice-types.ensures)) ∙ length-shapes_of_types (types_of types) ∙ length-types_of types in
    omega (arith, counts, c.loop-i-test.true)

pub loop-i-init : goal.loop-i-init
loop-i-init c =
    let ty = c.args.ty.now in
    let start = subst (λ l. IsLeft c.args.setting.now c.args.fixed.now (type_of ty) 0 [] no_args [] (pis l (family ty.family ty.args))) (sym c.as_slice-types.ensures) c.requires.begins in
    subst₂ (λ xs gs. IsLeft c.args.setting.now c.args.fixed.now (type_of ty) 0 [] (spine_of xs) (map goal_of gs) (pis (types_of c.as_slice-types.result.now) (family ty.family ty.args)))
    (sym c.in_ok-with_capacity.ensures.items) (sym c.new.ensures.items) start

pub open_argument-requires : goal.open_argument-requires
open_argument-requires c =
    let ty = c.args.ty.now in
    record {
      setting = c.requires.setting;
      puts = argument_asks c.args.setting.now c.args.fixed.now (type_of ty) c.as_slice-items.result.now c.as_slice-types.result.now c.loop-i.i c.index-types-i.result _ _ (family ty.family ty.args) c.loop-i-test.true
          c.index-types-i.is c.loop-i.invariant;
    }

pub loop-i-preserved : goal.loop-i-preserved
loop-i-preserved c =
    let ty = c.args.ty.now in
    let places = c.in_ok-places.places.items in
    let counts = length-types_of c.as_slice-types.result.now in
    let fixed_so = sym (get_or_read places c.loop-i.i c.index.result.now (omega (arith, c.in_ok-places.ensures.each, c.loop-i-test.true)) c.index.ensures None) in
    argument_more c.args.setting.now c.args.fixed.now (type_of ty) c.as_slice-items.result.now c.as_slice-types.result.now c.loop-i.i c.index-items-i.result c.index-types-i.result c.index.result.now _ _ _ _
    (family ty.family ty.args) c.loop-i-test.true c.index-types-i.is c.index-items-i.is (c.as_slice-items.ensures ∙ c.requires.shapes ∙ ap shapes_of_types (sym c.as_slice-types.ensures))
    (sym fixed_so ∙ c.in_ok-places.ensures.fixed_so c.loop-i.i c.loop-i-test.true) c.in_ok-open_argument.ensures c.loop-i.invariant

pub returns : goal.returns
returns c =
    let ty = c.args.ty.now in
    arguments_end c.args.setting.now c.args.fixed.now (type_of ty) c.as_slice-items.result.now c.as_slice-types.result.now c.loop-i.i _ _ (family ty.family ty.args) c.args.shapes.now ty.binders (omega arith)
    c.as_slice-items.ensures c.as_slice-types.ensures (c.as_slice-items.ensures ∙ c.requires.shapes ∙ ap shapes_of_types (sym c.as_slice-types.ensures)) c.loop-i.invariant
