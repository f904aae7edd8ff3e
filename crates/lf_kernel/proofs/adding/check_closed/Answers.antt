use Rattle.std.proofs.Common.{[], subst}
use Rattle.std.proofs.lemmas.Result.{IfOk-weaker}
use Rattle.lf_definitions.specs.Signatures.{kinds_in, typing_in}
use Rattle.lf_terms.specs.Types.{type_of}
use Rattle.lf_kernel.specs.Checks.{ChecksType}
use Rattle.lf_kernel.proofs.Openings.{empty_context, no_goals_shaped}
use Rattle.lf_kernel.proofs.adding.check_closed.Goals as goal

pub check_type-requires-clause-context : goal.check_type-requires-clause-context
check_type-requires-clause-context c = empty_context c.args.sig.now c.new-metas.result c.new.result c.new.ensures

pub check_type-requires-clause-goals : goal.check_type-requires-clause-goals
check_type-requires-clause-goals c = no_goals_shaped c.args.sig.now c.new-metas.result c.new-metas.ensures

pub returns : goal.returns
returns c =
    let sig = c.args.sig.now in
    let a = type_of c.args.ty.now in
    IfOk-weaker c.check_type-2.result _ _
    (λ answer p. subst (λ ctx. ChecksType (kinds_in sig) (typing_in sig [] ctx) a answer) c.new.ensures
    (subst (λ goals. ChecksType (kinds_in sig) (typing_in sig goals c.new.result) a answer) c.new-metas.ensures p))
    c.check_type-2.ensures
