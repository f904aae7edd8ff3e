use Rattle.std.proofs.Common.{sym, ap, ◌∙◌}
use Rattle.lf_definitions.specs.Signatures.{constant_types}
use Rattle.lf_definitions.specs.Typing.{typed_globals}
use Rattle.lf_terms.specs.Terms.{head_of}
use Rattle.lf_kernel.specs.Heads.{typing_at}
use Rattle.lf_kernel.proofs.Heads.{typing_under-bound, typing_under-constant, typing_under-metavariable}
use Rattle.lf_kernel.proofs.head_type.type_of_head.Goals as goal

pub returns-in-None : goal.returns-in-None
returns-in-None c =
    let a = c.args in
    c.in-None.ensures ∙ typing_under-bound a.scope.now (constant_types a.sig.now) a.metas.now c.in-Bound.number ∙ ap (λ h. typing_at a.sig.now a.metas.now a.scope.now (head_of h)) (sym c.in-Bound.is)

pub returns-else-number : goal.returns-else-number
returns-else-number c =
    let a = c.args in
    c.in-Some.ensures ∙ typing_under-bound a.scope.now (constant_types a.sig.now) a.metas.now c.in-Bound.number ∙ ap (λ h. typing_at a.sig.now a.metas.now a.scope.now (head_of h)) (sym c.in-Bound.is)

pub returns-in-Const : goal.returns-in-Const
returns-in-Const c =
    let a = c.args in
    c.type_of_constant.ensures ∙ sym (typing_under-constant a.scope.now (typed_globals (constant_types a.sig.now) a.metas.now) c.in-Const.number)
    ∙ ap (λ h. typing_at a.sig.now a.metas.now a.scope.now (head_of h)) (sym c.in-Const.is)

pub returns-in-Meta : goal.returns-in-Meta
returns-in-Meta c =
    let a = c.args in
    c.type_of_goal.ensures ∙ sym (typing_under-metavariable a.scope.now (typed_globals (constant_types a.sig.now) a.metas.now) c.in-Meta.goal)
    ∙ ap (λ h. typing_at a.sig.now a.metas.now a.scope.now (head_of h)) (sym c.in-Meta.is)
