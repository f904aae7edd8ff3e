use Rattle.std.proofs.Common.{sym, subst}
use Rattle.std.proofs.lemmas.Result.{IfOk-weaker}
use Rattle.lf_definitions.specs.Instantiation.{InstantiatedType}
use Rattle.lf_terms.specs.Types.{type_of}
use Rattle.meta_goals.specs.Bindings.{assigning}
use Rattle.meta_goals.proofs.ChangedTypes.{type_keeps_shape}
use Rattle.meta_goals.proofs.instantiate.instantiate_type.Goals as goal

pub returns-clause-result : goal.returns-clause-result
returns-clause-result c = IfOk-weaker c.type_or.result _ _ (λ r e. subst (InstantiatedType (assigning c.args.assign.now) (type_of c.args.ty.now)) (sym e) c.in_ok-change.ensures) c.type_or.ensures

pub returns-clause-shaped : goal.returns-clause-shaped
returns-clause-shaped c =
    IfOk-weaker c.type_or.result _ _
    (λ r e. type_keeps_shape c.args.assign.now (type_of c.args.ty.now) (type_of r) (subst (InstantiatedType (assigning c.args.assign.now) (type_of c.args.ty.now)) (sym e) c.in_ok-change.ensures)) c.type_or.ensures
