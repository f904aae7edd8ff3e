use Rattle.std.proofs.Common.{sym, subst}
use Rattle.std.proofs.lemmas.Result.{IfOk-weaker}
use Rattle.lf_definitions.specs.Instantiation.{InstantiatedSpine}
use Rattle.meta_goals.specs.Bindings.{assigning}
use Rattle.meta_goals.proofs.ChangedTerms.{args_keep_shape}
use Rattle.meta_goals.proofs.instantiate.instantiate_all.Goals as goal

pub returns-clause-result : goal.returns-clause-result
returns-clause-result c = IfOk-weaker c.terms_or.result _ _ (λ r e. subst (InstantiatedSpine (assigning c.args.assign.now) c.args.terms.now) (sym e) c.in_ok-change.ensures) c.terms_or.ensures

pub returns-clause-shaped : goal.returns-clause-shaped
returns-clause-shaped c =
    IfOk-weaker c.terms_or.result _ _
    (λ r e. args_keep_shape c.args.assign.now c.args.terms.now r (subst (InstantiatedSpine (assigning c.args.assign.now) c.args.terms.now) (sym e) c.in_ok-change.ensures)) c.terms_or.ensures
