use Rattle.std.proofs.Common.{sym, subst}
use Rattle.std.proofs.lemmas.Result.{IfOk-weaker}
use Rattle.lf_definitions.specs.Instantiation.{InstantiatedContext}
use Rattle.meta_goals.specs.Bindings.{assigning}
use Rattle.meta_goals.proofs.ChangedTypes.{context_keeps_shape}
use Rattle.meta_goals.proofs.instantiate.instantiate_context.Goals as goal

pub returns-clause-result : goal.returns-clause-result
returns-clause-result c = IfOk-weaker c.types_or.result _ _ (λ r e. subst (InstantiatedContext (assigning c.args.assign.now) c.args.ctx.now) (sym e) c.in_ok-change.ensures) c.types_or.ensures

pub returns-clause-shaped : goal.returns-clause-shaped
returns-clause-shaped c =
    IfOk-weaker c.types_or.result _ _
    (λ r e. context_keeps_shape c.args.assign.now c.args.ctx.now r (subst (InstantiatedContext (assigning c.args.assign.now) c.args.ctx.now) (sym e) c.in_ok-change.ensures)) c.types_or.ensures
