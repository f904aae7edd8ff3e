use Rattle.std.proofs.Common.{ap, ◌∙◌}
use Rattle.std.proofs.lemmas.Result.{IfOk-weaker}
use Rattle.lf_terms.specs.Terms.{head_of}
use Rattle.lf_kernel.proofs.ConstantShapes.{known_of_constant, constant_within, constant_shapes}
use Rattle.lf_kernel.proofs.walk.binder_shapes.Goals as goal

pub bounds-kept-number : goal.bounds-kept-number
bounds-kept-number c =
    let known = known_of_constant c.args.place.now (head_of c.args.head) c.in-Const.number c.args.found.now c.requires (ap head_of c.in-Const.is) in
    constant_within c.args.place.now.sig.now c.args.found.now c.in-Const.number known c.as_slice-kept.result.now (c.as_slice-kept.ensures ∙ c.shapes.ensures)

pub returns-in-Const : goal.returns-in-Const
returns-in-Const c =
    let known = known_of_constant c.args.place.now (head_of c.args.head) c.in-Const.number c.args.found.now c.requires (ap head_of c.in-Const.is) in
    let kept = c.as_slice-kept.result.now in
    IfOk-weaker c.copy.result _ _
    (λ shapes copied. copied ∙ constant_shapes c.args.place.now.sig.now c.args.found.now c.in-Const.number known kept (c.as_slice-kept.ensures ∙ c.shapes.ensures) c.index-kept-number.result c.index-kept-number.is) c.copy.ensures
