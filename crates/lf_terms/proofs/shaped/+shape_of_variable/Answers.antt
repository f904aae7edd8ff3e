use Rattle.std.proofs.Common.{arith, sym, ap, ◌∙◌, ◌-◌}
use Rattle.lf_definitions.specs.Syntax.{bound}
use Rattle.lf_terms.specs.LocalShapes.{scope_under, no_globals}
use Rattle.lf_terms.proofs.LocalShapes.{prefix_inside, under_all-outside}
use Rattle.lf_terms.proofs.shaped.+shape_of_variable.Goals as goal

pub returns-then-number-count : goal.returns-then-number-count
returns-then-number-count t c =
    let n = c.args.number in
    c.newest-then-number-count.ensures ∙ prefix_inside (scope_under no_globals c.in-Under.outside.now) c.in-Under.shapes.now n (omega (arith, c.if-number-count.true, c.len-count.ensures))
    ∙ ap (λ s. scope_under no_globals s (bound n)) (sym c.in-Under.is)

pub returns-else-number-count : goal.returns-else-number-count
returns-else-number-count t c =
    let n = c.args.number in
    c.shape_of_variable.ensures ∙ ap (λ m. scope_under no_globals c.in-Under.outside.now (bound (n - m))) c.len-count.ensures
    ∙ sym (under_all-outside c.in-Under.shapes.now (scope_under no_globals c.in-Under.outside.now) n (omega (arith, c.if-number-count.false, c.len-count.ensures)))
    ∙ ap (λ s. scope_under no_globals s (bound n)) (sym c.in-Under.is)
