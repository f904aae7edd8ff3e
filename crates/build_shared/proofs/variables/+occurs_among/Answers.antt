use Rattle.std.proofs.Common.{sym, ap, arith}
use Rattle.lf_definitions.specs.Syntax.{spine_size}
use Rattle.lf_terms.proofs.Spines.{item_size}
use Rattle.build_shared.proofs.OccurringVariables.{none_within_spine}
use Rattle.build_shared.proofs.variables.+occurs_among.Goals as goal

pub occurs_among-returns-then-is_within : goal.occurs_among-returns-then-is_within
occurs_among-returns-then-is_within t c = sym (none_within_spine c.args.number c.args.terms.now (c.is_within.ensures c.if-is_within.true))

pub occurs_among-occurs_in_term-requires : goal.occurs_among-occurs_in_term-requires
occurs_among-occurs_in_term-requires t c =
    (omega (arith, c.decreases, ap spine_size c.as_slice-items.ensures, item_size c.as_slice-items.result.now c.loop-i.i c.index-items-i.result c.loop-i-test.true c.index-items-i.is), tt)
