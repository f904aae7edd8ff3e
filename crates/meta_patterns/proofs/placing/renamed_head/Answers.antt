use Rattle.std.proofs.Common.{sym, ap, ◌∙◌}
use Rattle.lf_definitions.specs.Renaming.{lifted_by}
use Rattle.lf_terms.specs.Terms.{head_of}
use Rattle.unification.specs.Patterns.{placed}
use Rattle.meta_patterns.proofs.Placings.{lifted_inside, lifted_entry, others_stay}
use Rattle.meta_patterns.proofs.placing.renamed_head.Goals as goal

pub returns-then-number-depth : goal.returns-then-number-depth
returns-then-number-depth c =
    let ξ = placed c.args.pattern.now in
    sym (ap (λ h. lifted_by c.args.depth ξ (head_of h)) c.in-Bound.is ∙ lifted_inside c.args.depth c.in-Bound.number ξ c.if-number-depth.true)

pub returns-else-entry-depth : goal.returns-else-entry-depth
returns-else-entry-depth c =
    let ξ = placed c.args.pattern.now in
    lifted_entry c.args.depth c.in-Bound.number c.entry-entry.result ξ c.if-number-depth.false c.entry-entry.ensures ∙ sym (ap (λ h. lifted_by c.args.depth ξ (head_of h)) c.in-Bound.is)

pub returns-in-Const : goal.returns-in-Const
returns-in-Const c = others_stay c.args.depth c.args.pattern.now c.args.head c.in-Const.is
