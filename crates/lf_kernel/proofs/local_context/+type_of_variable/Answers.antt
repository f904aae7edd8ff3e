use Rattle.std.proofs.Common.{sym, ap, ◌∙◌}
use Rattle.lf_definitions.specs.Syntax.{bound}
use Rattle.lf_kernel.specs.LocalContexts.{typing_under, no_heads}
use Rattle.lf_kernel.proofs.Scopes.{variable_inside, variable_outside}
use Rattle.lf_kernel.proofs.local_context.+type_of_variable.Goals as goal

pub returns-then-number-count : goal.returns-then-number-count
returns-then-number-count t c =
    variable_inside c.in-Under.types.now (typing_under no_heads c.in-Under.outside.now) c.args.number c.index-types-count.result c.if-number-count.true
    ∙ ap (λ s. typing_under no_heads s (bound c.args.number)) (sym c.in-Under.is)

pub returns-else-number-count : goal.returns-else-number-count
returns-else-number-count t c =
    variable_outside c.in-Under.types.now (typing_under no_heads c.in-Under.outside.now) c.args.number c.type_of_variable.result c.if-number-count.false c.type_of_variable.ensures
    ∙ ap (λ s. typing_under no_heads s (bound c.args.number)) (sym c.in-Under.is)
