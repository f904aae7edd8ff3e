use Rattle.std.proofs.Common.{◌+◌, ◌*◌}
use Rattle.lf_definitions.specs.Syntax.{term_size, spine_size}
use Rattle.lf_definitions.specs.Renaming.{next_by}
use Rattle.lf_terms.specs.Terms.{term_of}
use Rattle.lf_kernel.specs.Heads.{typing_of}
use Rattle.lf_kernel.proofs.Arguments.{TypedUpTo}
use Rattle.lf_kernel.proofs.walk.+walk.Given as goal

abbrev pub decreases-walk_args : goal.decreases-walk_args
decreases-walk_args l = 4 * spine_size l.args.now

abbrev pub decreases-walk_spine : goal.decreases-walk_spine
decreases-walk_spine l = 4 * spine_size l.args.now + 1

abbrev pub decreases-walk_body : goal.decreases-walk_body
decreases-walk_body l = 4 * term_size (term_of l.body.now)

abbrev pub decreases-walk_term : goal.decreases-walk_term
decreases-walk_term l = 4 * term_size (term_of l.term.now) + 1

abbrev pub invariant-walk_args-loop-i : goal.invariant-walk_args-loop-i
invariant-walk_args-loop-i l = TypedUpTo (typing_of l.place) (next_by l.raise) l.terms l.types l.i
