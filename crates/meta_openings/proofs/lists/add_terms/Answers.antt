use Rattle.std.proofs.Common.{arith, sym, ap, ◌∙◌, take_all}
use Rattle.lf_definitions.specs.Syntax.{joined}
use Rattle.lf_terms.specs.Terms.{spine_of}
use Rattle.lf_terms.proofs.Expansions.{joined-no_args}
use Rattle.meta_openings.proofs.Copies.{one_term_copied}
use Rattle.meta_openings.proofs.lists.add_terms.Goals as goal

pub loop-i-init : goal.loop-i-init
loop-i-init c = sym (joined-no_args _)

pub loop-i-preserved : goal.loop-i-preserved
loop-i-preserved c =
    one_term_copied _ _ _ c.args.more.now c.loop-i.i c.index-more-i.result _ c.loop-i-test.true c.index-more-i.is c.in_ok-push.ensures.items c.in_ok-copy.ensures c.loop-i.invariant

pub returns : goal.returns
returns c = c.loop-i.invariant ∙ ap (λ ts. joined (spine_of c.args.terms.now.items) (spine_of ts)) (take_all c.loop-i.i c.args.more.now (omega arith))
