use Rattle.std.proofs.lemmas.Result.{IfOk-weaker}
use Rattle.lf_terms.specs.Types.{type_of}
use Rattle.build_shared.proofs.RaisedTypes.{puts_nothing, is_raised}
use Rattle.build_shared.proofs.hypotheses.raised.Goals as goal

pub put_type-requires : goal.put_type-requires
put_type-requires c = puts_nothing c.args.by (type_of c.args.ty.now) c.requires

pub returns : goal.returns
returns c = IfOk-weaker c.put_type.result _ _ (λ r result. is_raised c.args.by (type_of c.args.ty.now) (type_of r) result) c.put_type.ensures.result
