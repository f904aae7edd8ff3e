use Rattle.lf_definitions.specs.Syntax.{term_size, spine_size}
use Rattle.lf_terms.specs.Terms.{term_of}
use Rattle.test_goals.proofs.writing.+append_term.Given as goal

abbrev pub decreases-append_term : goal.decreases-append_term
decreases-append_term l = term_size (term_of l.term.now)

abbrev pub decreases-append_args : goal.decreases-append_args
decreases-append_args l = spine_size l.args.now
