use Rattle.std.proofs.Common.{◌≡◌}
use Rattle.lf_definitions.specs.Syntax.{lams}
use Rattle.lf_terms.specs.Terms.{term_of}
use Rattle.proof_replay.proofs.replaying.under_binders.Given as goal

abbrev pub invariant-loop : goal.invariant-loop
invariant-loop l = term_of l.term ≡ lams l.counter (term_of l.fn.inside)
