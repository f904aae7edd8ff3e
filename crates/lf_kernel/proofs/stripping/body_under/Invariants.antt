use Rattle.std.proofs.Common.{◌≡◌}
use Rattle.lf_definitions.specs.Syntax.{lams}
use Rattle.lf_terms.specs.Terms.{term_of}
use Rattle.lf_kernel.proofs.stripping.body_under.Given as goal

abbrev pub invariant-loop-depth : goal.invariant-loop-depth
invariant-loop-depth l = term_of l.fn.term ≡ lams l.depth (term_of l.body)
