use Rattle.std.proofs.Common.{◌≡◌, ◌-◌, inl, inr, get_or, arith, sym, ap, ◌∙◌}
use Rattle.lf_definitions.specs.Syntax.{bound}
use Rattle.lf_definitions.specs.Renaming.{lifted_by}
use Rattle.lf_terms.specs.Terms.{head_of}
use Rattle.meta_openings.specs.Counts.{by_counts}
use Rattle.meta_openings.proofs.Renamed.{renamed_local, renamed_outside, renamed_constant, renamed_metavariable}
use Rattle.meta_openings.proofs.renaming.renamed_head.Goals as goal

pub returns-then-number-depth : goal.returns-then-number-depth
returns-then-number-depth c =
    let a = c.args in
    renamed_local a.before.now a.count a.depth c.in-Bound.number c.if-number-depth.true ∙ ap (λ h. lifted_by a.depth (by_counts a.before.now a.count) (head_of h)) (sym c.in-Bound.is)

pub returns-else-number-depth-2 : goal.returns-else-number-depth-2
returns-else-number-depth-2 c =
    let a = c.args in
    let n = c.in-Bound.number in
    let later = c.saturating_sub-later.ensures ∙ ap (λ k. get_or a.before.now a.count 0 - get_or a.before.now k 0) c.saturating_sub.ensures in
    let is : bound c.in-Some.number ≡ by_counts a.before.now a.count (bound (n - a.depth)) = ap bound (omega (arith, later, c.saturating_sub-in-Bound.ensures, c.in-Some.ensures)) in
    renamed_outside a.before.now a.count a.depth n c.in-Some.number (omega (arith, c.if-number-depth.false)) is
    ∙ ap (λ h. lifted_by a.depth (by_counts a.before.now a.count) (head_of h)) (sym c.in-Bound.is)

pub returns-in-Const : goal.returns-in-Const
returns-in-Const c =
    let a = c.args in
    elim c.in-Const.is [
      | inl p ↦ ap head_of p.1 ∙ renamed_constant a.before.now a.count a.depth p.0 ∙ ap (λ h. lifted_by a.depth (by_counts a.before.now a.count) (head_of h)) (sym p.1)
      | inr p ↦ ap head_of p.1 ∙ renamed_metavariable a.before.now a.count a.depth p.0 ∙ ap (λ h. lifted_by a.depth (by_counts a.before.now a.count) (head_of h)) (sym p.1)
    ]
