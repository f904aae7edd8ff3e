use Rattle.std.proofs.Common.{sym, ap, arith}
use Rattle.lf_definitions.specs.Syntax.{spine_size}
use Rattle.lf_terms.specs.Terms.{term_of}
use Rattle.lf_terms.proofs.Spines.{item_size}
use Rattle.meta_patterns.proofs.Mentioned.{not_plain, not_plain_among}
use Rattle.meta_patterns.proofs.occurrence.+occurs_plainly.Goals as goal

pub occurs_plainly-returns-then-not-has_metas : goal.occurs_plainly-returns-then-not-has_metas
occurs_plainly-returns-then-not-has_metas t c = sym (not_plain c.args.goal (term_of c.args.term.now) (c.has_metas.ensures c.if-not-has_metas.true))

pub occurs_plainly_among-occurs_plainly-requires : goal.occurs_plainly_among-occurs_plainly-requires
occurs_plainly_among-occurs_plainly-requires t c =
    (omega (arith, c.decreases, ap spine_size c.as_slice-items.ensures, item_size c.as_slice-items.result.now c.loop-i.i c.index-items-i.result c.loop-i-test.true c.index-items-i.is), tt)

pub occurs_plainly_among-returns-then-not-has_metas : goal.occurs_plainly_among-returns-then-not-has_metas
occurs_plainly_among-returns-then-not-has_metas t c = sym (not_plain_among c.args.goal c.args.terms.now (c.has_metas.ensures c.if-not-has_metas.true))
