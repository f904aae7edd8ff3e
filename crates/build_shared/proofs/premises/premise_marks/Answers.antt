use Rattle.std.proofs.Common.{◌∙◌, ap, map, not}
use Rattle.std.proofs.lemmas.Result.{IfOk-weaker}
use Rattle.lf_terms.specs.Types.{type_of}
use Rattle.build_shared.proofs.TurnedMarks.{turned}
use Rattle.build_shared.proofs.premises.premise_marks.Goals as goal

pub returns : goal.returns
returns c = IfOk-weaker c.turned.result _ _ (λ marks is. is ∙ ap (map not) c.as_slice.ensures.value ∙ turned (type_of c.args.ty.now) c.in_ok-mentioned.mentioned.items c.in_ok-mentioned.ensures) c.turned.ensures
