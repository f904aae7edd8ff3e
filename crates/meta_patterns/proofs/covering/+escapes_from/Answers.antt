use Rattle.std.proofs.Common.{◌+◌, arith, sym, ap, ◌∙◌}
use Rattle.lf_definitions.specs.Syntax.{spine_size}
use Rattle.lf_terms.specs.Terms.{term_of}
use Rattle.lf_terms.proofs.Spines.{item_size}
use Rattle.unification.specs.Patterns.{escapes_from}
use Rattle.meta_patterns.specs.Variables.{under_binders}
use Rattle.meta_patterns.proofs.UnderBinders.{under_one_more, within_no_escape, within_no_escape_spine}
use Rattle.meta_patterns.proofs.covering.+escapes_from.Goals as goal

pub escapes_from-returns-then-is_within : goal.escapes_from-returns-then-is_within
escapes_from-returns-then-is_within t c =
    let ns = c.args.pattern.now in
    let depth = c.args.depth in
    let body = c.in-Lam.body in
    sym (ap (λ u. escapes_from (under_binders depth ns) (term_of u)) c.in-Lam.is ∙ ap (λ m. escapes_from m body) (sym (under_one_more depth ns))
    ∙ within_no_escape c.below_under.result (under_binders (depth + 1) ns) body c.below_under.ensures (c.is_within.ensures c.if-is_within.true))

pub one_escapes_from-returns-then-is_within : goal.one_escapes_from-returns-then-is_within
one_escapes_from-returns-then-is_within t c =
    sym (within_no_escape_spine c.below_under.result (under_binders c.args.depth c.args.pattern.now) c.args.terms.now c.below_under.ensures (c.is_within.ensures c.if-is_within.true))

pub one_escapes_from-escapes_from-requires : goal.one_escapes_from-escapes_from-requires
one_escapes_from-escapes_from-requires t c =
    (omega (arith, c.decreases, ap spine_size c.as_slice-items.ensures, item_size c.as_slice-items.result.now c.loop-i.i c.index-items-i.result c.loop-i-test.true c.index-items-i.is), tt)
