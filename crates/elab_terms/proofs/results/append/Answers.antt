use Rattle.std.proofs.Common.{sym}
use Rattle.lf_terms.specs.Terms.{spine_of}
use Rattle.lf_terms.proofs.Expansions.{joined-no_args}
use Rattle.elab_terms.proofs.Copies.{term_copied}
use Rattle.elab_terms.proofs.results.append.Goals as goal

pub loop-term-init : goal.loop-term-init
loop-term-init c = sym (joined-no_args (spine_of c.args.terms.now.items))

pub loop-term-preserved : goal.loop-term-preserved
loop-term-preserved c =
    term_copied (spine_of c.args.terms.now.items) c.args.more.now _ _ c.loop-term.term-index c.term-item.result _ c.loop-term-test.true c.term-item.is c.in_ok-push.ensures.items c.loop-term.invariant c.in_ok-copy.ensures
