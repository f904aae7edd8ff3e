use Rattle.std.proofs.Common.{sym, ap, ◌∙◌, subst, subst₂, length}
use Rattle.std.proofs.lemmas.Result.{IfOk-weaker}
use Rattle.lf_definitions.specs.Syntax.{lams, arrows, base}
use Rattle.lf_definitions.specs.Substitution.{stays, Substituted, Applied}
use Rattle.lf_definitions.specs.Expansion.{own_variables}
use Rattle.lf_terms.specs.Terms.{term_of}
use Rattle.lf_terms.specs.Putting.{putting, Puts, TermShaped}
use Rattle.meta_goals.proofs.BodyFacts.{applied_to_own, puts_args_in, applied_by_putting}
use Rattle.meta_goals.proofs.applied.applied.Goals as goal

pub returns-then-are_own_variables : goal.returns-then-are_own_variables
returns-then-are_own_variables c =
    let a = c.args in
    let body = term_of a.entry.now.body in
    IfOk-weaker c.copy.result _ _
    (λ r same. subst (Applied stays (lams (length a.entry.now.shapes) body) a.args.now) (sym same)
    (applied_to_own a.entry.now.shapes body a.args.now c.requires
    (sym c.as_slice.ensures ∙ c.are_own_variables.ensures c.if-are_own_variables.true ∙ ap (λ l. own_variables (arrows l base)) c.as_slice-shapes.ensures)))
    c.copy.ensures

pub put-requires : goal.put-requires
put-requires c =
    let a = c.args in
    let body = term_of a.entry.now.body in
    subst₂ (λ vs l. Puts vs l 0 0 (TermShaped body)) (sym c.as_slice-2.ensures) (sym c.as_slice-shapes.ensures) (puts_args_in a.entry.now.shapes body a.args.now c.requires)

pub returns : goal.returns
returns c =
    let a = c.args in
    let body = term_of a.entry.now.body in
    IfOk-weaker c.put.result _ _
    (λ r p. applied_by_putting a.entry.now.shapes body a.args.now c.requires (term_of r) (subst (λ vs. Substituted (putting vs 0 0) body (term_of r)) c.as_slice-2.ensures p))
    c.put.ensures.result
