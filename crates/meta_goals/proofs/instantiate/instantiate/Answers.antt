use Rattle.std.proofs.Common.{sym, subst}
use Rattle.std.proofs.lemmas.Result.{IfOk-weaker}
use Rattle.lf_definitions.specs.Instantiation.{Instantiated}
use Rattle.lf_terms.specs.Terms.{term_of}
use Rattle.meta_goals.specs.Bindings.{assigning}
use Rattle.meta_goals.proofs.ChangedTerms.{term_keeps_shape}
use Rattle.meta_goals.proofs.instantiate.instantiate.Goals as goal

pub returns-clause-result : goal.returns-clause-result
returns-clause-result c = IfOk-weaker c.term_or.result _ _ (λ r e. subst (Instantiated (assigning c.args.assign.now) (term_of c.args.term.now)) (sym e) c.in_ok-change.ensures) c.term_or.ensures

pub returns-clause-shaped : goal.returns-clause-shaped
returns-clause-shaped c =
    IfOk-weaker c.term_or.result _ _
    (λ r e. term_keeps_shape c.args.assign.now (term_of c.args.term.now) (term_of r) (subst (Instantiated (assigning c.args.assign.now) (term_of c.args.term.now)) (sym e) c.in_ok-change.ensures)) c.term_or.ensures
