use Rattle.std.proofs.Common.{◌-◌, sym, ap, ◌∙◌}
use Rattle.std.specs.Prelude.{is_some}
use Rattle.lf_terms.specs.Terms.{head_of}
use Rattle.unification.specs.Patterns.{is_among}
use Rattle.meta_patterns.specs.Variables.{under_binders}
use Rattle.meta_patterns.proofs.OwnVariables.{is_some-placed_number}
use Rattle.meta_patterns.proofs.UnderBinders.{has_local, has_outside}
use Rattle.meta_patterns.proofs.covering.is_among.Goals as goal

pub returns-then-number-depth : goal.returns-then-number-depth
returns-then-number-depth c =
    let ns = c.args.pattern.now in
    sym (ap (λ h. is_among (under_binders c.args.depth ns) (head_of h)) c.in-Bound.is ∙ has_local c.args.depth c.in-Bound.number ns c.if-number-depth.true)

pub returns-else-number-depth : goal.returns-else-number-depth
returns-else-number-depth c =
    let ns = c.args.pattern.now in
    c.is_some.ensures ∙ ap is_some c.placed_number.ensures ∙ is_some-placed_number ns (c.in-Bound.number - c.args.depth)
    ∙ sym (ap (λ h. is_among (under_binders c.args.depth ns) (head_of h)) c.in-Bound.is ∙ has_outside c.args.depth c.in-Bound.number ns c.if-number-depth.false)
