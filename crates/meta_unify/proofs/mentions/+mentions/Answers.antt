use Rattle.std.proofs.Common.{sym, ap, arith}
use Rattle.lf_definitions.specs.Syntax.{spine_size}
use Rattle.lf_terms.proofs.Spines.{item_size}
use Rattle.meta_unify.proofs.Mentioned.{nothing_among}
use Rattle.meta_unify.proofs.mentions.+mentions.Goals as goal

pub mentions_among-returns-then-not-has_metas : goal.mentions_among-returns-then-not-has_metas
mentions_among-returns-then-not-has_metas t c = sym (nothing_among c.args.assign.now c.args.terms.now (c.has_metas.ensures c.if-not-has_metas.true))

pub mentions_among-mentions-requires : goal.mentions_among-mentions-requires
mentions_among-mentions-requires t c =
    (omega (arith, c.decreases, ap spine_size c.as_slice-items.ensures, item_size c.as_slice-items.result.now c.loop-i.i c.index-items-i.result c.loop-i-test.true c.index-items-i.is), tt)
