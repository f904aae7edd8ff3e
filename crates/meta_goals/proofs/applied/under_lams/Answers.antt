use Rattle.std.proofs.Common.{sym, ap, ◌∙◌}
use Rattle.lf_definitions.specs.Syntax.{lam}
use Rattle.lf_terms.specs.Terms.{term_of}
use Rattle.lf_terms.proofs.Abstractions.{strip_more}
use Rattle.meta_goals.proofs.applied.under_lams.Goals as goal

pub loop-preserved : goal.loop-preserved
loop-preserved c = strip_more c.loop.counter _ _ _ c.loop.invariant (ap term_of c.in-Lam.is ∙ ap lam (sym c.term-body.ensures))
