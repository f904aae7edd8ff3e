use Rattle.std.proofs.Common.{◌+◌, arith, sym, ap, ◌∙◌}
use Rattle.lf_definitions.specs.Syntax.{spine_size}
use Rattle.lf_terms.specs.Terms.{term_of}
use Rattle.lf_terms.proofs.Spines.{item_size}
use Rattle.unification.specs.Patterns.{is_over}
use Rattle.meta_patterns.specs.Variables.{under_binders}
use Rattle.meta_patterns.proofs.UnderBinders.{under_one_more, within_over, within_over_spine}
use Rattle.meta_patterns.proofs.covering.+is_over.Goals as goal

pub is_over-returns-then-is_within : goal.is_over-returns-then-is_within
is_over-returns-then-is_within t c =
    let ns = c.args.pattern.now in
    let depth = c.args.depth in
    let body = c.in-Lam.body in
    sym (ap (λ u. is_over (under_binders depth ns) (term_of u)) c.in-Lam.is ∙ ap (λ m. is_over m body) (sym (under_one_more depth ns))
    ∙ within_over c.below_under.result (under_binders (depth + 1) ns) body c.below_under.ensures (c.is_within.ensures c.if-is_within.true))

pub is_over_all-returns-then-is_within : goal.is_over_all-returns-then-is_within
is_over_all-returns-then-is_within t c =
    sym (within_over_spine c.below_under.result (under_binders c.args.depth c.args.pattern.now) c.args.terms.now c.below_under.ensures (c.is_within.ensures c.if-is_within.true))

pub is_over_all-is_over-requires : goal.is_over_all-is_over-requires
is_over_all-is_over-requires t c =
    (omega (arith, c.decreases, ap spine_size c.as_slice-items.ensures, item_size c.as_slice-items.result.now c.loop-i.i c.index-items-i.result c.loop-i-test.true c.index-items-i.is), tt)
