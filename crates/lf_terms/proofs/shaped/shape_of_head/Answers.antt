use Rattle.std.proofs.Common.{sym, ap, ◌∙◌}
use Rattle.lf_definitions.specs.Shaping.{globals}
use Rattle.lf_terms.specs.Terms.{head_of}
use Rattle.lf_terms.specs.LocalShapes.{scope_under}
use Rattle.lf_terms.proofs.LocalShapes.{scope_variable, scope_constant, scope_metavariable}
use Rattle.lf_terms.proofs.shaped.shape_of_head.Goals as goal

pub returns-in-Bound : goal.returns-in-Bound
returns-in-Bound c =
    let a = c.args in
    c.shape_of_variable.ensures ∙ scope_variable a.scope.now a.sig.now a.metas.now c.in-Bound.number
    ∙ ap (λ h. scope_under (globals a.sig.now a.metas.now) a.scope.now (head_of h)) (sym c.in-Bound.is)

pub returns-in-Const : goal.returns-in-Const
returns-in-Const c =
    let a = c.args in
    c.entry.ensures ∙ sym (scope_constant (globals a.sig.now a.metas.now) a.scope.now c.in-Const.number)
    ∙ ap (λ h. scope_under (globals a.sig.now a.metas.now) a.scope.now (head_of h)) (sym c.in-Const.is)

pub returns-in-Meta : goal.returns-in-Meta
returns-in-Meta c =
    let a = c.args in
    c.shape_of_metavariable.ensures ∙ sym (scope_metavariable (globals a.sig.now a.metas.now) a.scope.now c.in-Meta.goal)
    ∙ ap (λ h. scope_under (globals a.sig.now a.metas.now) a.scope.now (head_of h)) (sym c.in-Meta.is)
