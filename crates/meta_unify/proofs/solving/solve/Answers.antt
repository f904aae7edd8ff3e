use Rattle.std.proofs.Common.{sym, ap, ◌∙◌}
use Rattle.lf_definitions.specs.Syntax.{at}
use Rattle.lf_terms.specs.Terms.{head_of, term_of}
use Rattle.unification.specs.Patterns.{has_number}
use Rattle.meta_unify.proofs.Solvable.{solve_none, solve_entry, solve_shapes}
use Rattle.meta_unify.proofs.solving.solve.Goals as goal

pub returns-then-not-may_become-clause-entry : goal.returns-then-not-may_become-clause-entry
returns-then-not-may_become-clause-entry c =
    solve_none (has_number c.args.frozen.now) (term_of c.args.left.now) (term_of c.args.right.now) c.in-Meta.goal c.in-At.args (ap term_of c.in-At.is ∙ ap (λ h. at (head_of h) c.in-At.args) c.in-Meta.is)
    (sym c.may_become.ensures ∙ c.if-not-may_become.true)

pub returns-clause-entry : goal.returns-clause-entry
returns-clause-entry c =
    solve_entry (has_number c.args.frozen.now) (term_of c.args.left.now) (term_of c.args.right.now) c.in-Meta.goal c.in-At.args c.in-Some.pattern (record { shapes = c.in_ok-shapes.shapes; body = c.in_ok-body.body })
    (ap term_of c.in-At.is ∙ ap (λ h. at (head_of h) c.in-At.args) c.in-Meta.is) (sym c.may_become.ensures ∙ c.if-not-may_become.false)
    (sym c.in_ok-pattern.ensures ∙ c.in-Some.is) (sym c.in_ok-covers.ensures ∙ c.if-not-branch.false) c.in_ok-shapes.ensures c.in_ok-body.ensures

pub returns-clause-shapes : goal.returns-clause-shapes
returns-clause-shapes c =
    solve_shapes (term_of c.args.left.now) c.in-Meta.goal c.in-At.args c.in-Some.pattern c.in_ok-shapes.shapes (ap term_of c.in-At.is ∙ ap (λ h. at (head_of h) c.in-At.args) c.in-Meta.is)
    (sym c.in_ok-pattern.ensures ∙ c.in-Some.is) c.in_ok-shapes.ensures
