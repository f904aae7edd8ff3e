use Rattle.std.proofs.Common.{sym, ap, ◌∙◌}
use Rattle.lf_definitions.specs.Syntax.{lam, lams}
use Rattle.lf_terms.specs.Terms.{head_of, term_of}
use Rattle.lf_terms.proofs.Abstractions.{strip_more}
use Rattle.lf_kernel.proofs.stripping.body_under.Goals as goal

pub returns-in-At : goal.returns-in-At
returns-in-At c = (c.loop-depth-test.true, head_of c.in-At.field-0, c.in-At.field-1, c.loop-depth.invariant ∙ ap (λ t. lams c.loop-depth.depth (term_of t)) c.in-At.is)

pub loop-depth-preserved : goal.loop-depth-preserved
loop-depth-preserved c =
    strip_more c.loop-depth.depth _ _ _ c.loop-depth.invariant (ap term_of c.in-Lam.is ∙ ap lam (sym c.term-body.ensures))
