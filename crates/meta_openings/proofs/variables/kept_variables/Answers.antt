use Rattle.std.proofs.Common.{length, arith, sym, ap, ◌∙◌}
use Rattle.std.proofs.lemmas.Result.{IfOk-weaker}
use Rattle.lf_definitions.specs.Renaming.{next_by}
use Rattle.lf_terms.specs.Terms.{head_of}
use Rattle.lf_terms.proofs.ShapeLists.{length-simple_types_of}
use Rattle.meta_openings.proofs.EachVariable.{variables_begin, variables_more, variables_end}
use Rattle.meta_openings.proofs.variables.kept_variables.Goals as goal

pub add_variable-requires : goal.add_variable-requires
add_variable-requires c =
    omega (arith, c.requires.0.as_many, c.loop-place-test.true, sym (length-simple_types_of c.as_slice-items.result.now) ∙ ap length c.as_slice-items.ensures)

pub loop-place-init : goal.loop-place-init
loop-place-init c = variables_begin c.args.places.now.kept.now c.args.raise c.as_slice-items.result.now c.in_ok-terms.terms.items c.in_ok-terms.ensures.items

pub loop-place-preserved : goal.loop-place-preserved
loop-place-preserved c =
    let kept = c.args.places.now.kept.now in
    let items = c.as_slice-items.result.now in
    let place = c.loop-place.place in
    let counts = sym (length-simple_types_of items) ∙ ap length c.as_slice-items.ensures in
    variables_more kept c.args.raise items place c.index-items-place.result c.loop-place.terms.items _ _ (head_of c.in_ok-variable.variable) c.loop-place-test.true c.index-items-place.is
    (c.requires.0.marked place (omega (arith, c.loop-place-test.true, counts))) (c.in_ok-variable.ensures ∙ ap (next_by c.args.raise) c.in_ok-variable_at.ensures)
    c.in_ok-add_variable.ensures c.loop-place.invariant

pub returns : goal.returns
returns c =
    let kept = c.args.places.now.kept.now in
    let items = c.as_slice-items.result.now in
    let counts = sym (length-simple_types_of items) ∙ ap length c.as_slice-items.ensures in
    IfOk-weaker c.from_vec.result _ _
    (λ terms made. variables_end kept c.args.raise items c.args.shapes.now c.loop-place.place c.loop-place.terms.items terms c.loop-place-test.false c.as_slice-items.ensures counts made c.loop-place.invariant)
    c.from_vec.ensures
