use Rattle.std.proofs.Common.{ap, arith}
use Rattle.lf_definitions.specs.Syntax.{spine_size}
use Rattle.lf_terms.proofs.Spines.{item_size}
use Rattle.goal_clusters.proofs.Mentioning.{nothing_in_spine, one_more_term}
use Rattle.goal_clusters.proofs.mentioned.+add_term.Goals as goal

pub add_terms-returns-then-not-has_metas : goal.add_terms-returns-then-not-has_metas
add_terms-returns-then-not-has_metas t c = nothing_in_spine c.args.terms.now c.args.numbers.now.items (c.has_metas.ensures c.if-not-has_metas.true)

pub add_terms-add_term-requires : goal.add_terms-add_term-requires
add_terms-add_term-requires t c =
    (omega (arith, c.decreases, ap spine_size c.as_slice-items.ensures, item_size c.as_slice-items.result.now c.loop-i.i c.index-items-i.result c.loop-i-test.true c.index-items-i.is), tt)

pub add_terms-loop-i-preserved : goal.add_terms-loop-i-preserved
add_terms-loop-i-preserved t c =
    one_more_term c.as_slice-items.result.now c.loop-i.i c.index-items-i.result c.args.numbers.now.items c.loop-i.numbers.items c.add_term.new.numbers.items c.loop-i-test.true c.index-items-i.is
    c.loop-i.invariant c.in_ok-add_term.ensures
