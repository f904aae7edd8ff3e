use Rattle.std.proofs.Common.{map, arith, subst}
use Rattle.lf_definitions.specs.Substitution.{stays, push_all, SubstitutedType}
use Rattle.lf_terms.specs.Shapes.{simple_type_of}
use Rattle.lf_terms.specs.Terms.{head_of, spine_of}
use Rattle.lf_terms.specs.Types.{type_of}
use Rattle.lf_terms.specs.Targets.{goal_of}
use Rattle.meta_openings.proofs.FreshGoals.{adds_fixed, adds_fresh}
use Rattle.meta_openings.proofs.arguments.open_argument.Goals as goal

pub returns-in_ok-push-in-Some : goal.returns-in_ok-push-in-Some
returns-in_ok-push-in-Some c =
    let a = c.args in
    adds_fixed a.setting.now (simple_type_of a.shape.now) (type_of a.ty.now) a.fixed c.in-Some.place c.len-count.result (head_of c.in_ok-variable-in-Some.variable) a.opened.now.terms.items _ c.in_ok-eta-in-Some.field-0
    (map goal_of a.opened.now.goals.items) c.in-Some.is c.in_ok-push-in-Some.ensures.items c.in_ok-eta-in-Some.ensures c.in_ok-variable-in-Some.ensures c.len-count.ensures

pub returns-in_ok-push-in-None-2 : goal.returns-in_ok-push-in-None-2
returns-in_ok-push-in-None-2 c =
    let a = c.args in
    let put = subst (λ xs. SubstitutedType (push_all (spine_of xs) stays) (type_of a.ty.now) (type_of c.in_ok-put-in-None.put)) c.as_slice.ensures.value c.in_ok-put-in-None.ensures.result in
    adds_fresh a.setting.now (simple_type_of a.shape.now) (type_of a.ty.now) a.fixed c.in_ok-number-in-None.number c.len-count.result a.opened.now.terms.items _ c.in_ok-term_for-in-None.field-0
    a.opened.now.goals.items _ c.in_ok-goal_for-in-None.field-0 (type_of c.in_ok-put-in-None.put) (type_of c.in_ok-inside-in-None.inside) c.in-None.is c.len-count.ensures
    c.in_ok-push-in-None-2.ensures.items c.in_ok-term_for-in-None.ensures (omega (arith, c.in_ok-number-in-None.ensures, c.len.ensures, a.opened.now.goals.ok.0)) c.in_ok-push-in-None.ensures.items c.in_ok-goal_for-in-None.ensures
    c.in_ok-inside-in-None.ensures put
