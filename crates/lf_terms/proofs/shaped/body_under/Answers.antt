use Rattle.std.proofs.Common.{sym, ap, ◌∙◌}
use Rattle.lf_definitions.specs.Syntax.{lam}
use Rattle.lf_terms.specs.Terms.{head_of, term_of}
use Rattle.lf_terms.proofs.Abstractions.{strip_more, strip_stuck}
use Rattle.lf_terms.proofs.shaped.body_under.Goals as goal

pub returns-in-At : goal.returns-in-At
returns-in-At c =
    λ has. strip_stuck c.loop.counter c.args.count _ _ (head_of c.in-At.field-0) c.in-At.field-1 has c.loop-test.true c.loop.invariant (ap term_of c.in-At.is)

pub loop-preserved : goal.loop-preserved
loop-preserved c =
    strip_more c.loop.counter _ _ _ c.loop.invariant (ap term_of c.in-Lam.is ∙ ap lam (sym c.term-body.ensures))
