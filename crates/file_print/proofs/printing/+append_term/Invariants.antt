use Rattle.std.proofs.Common.{◌+◌, ◌*◌}
use Rattle.lf_definitions.specs.Syntax.{term_size, spine_size}
use Rattle.lf_terms.specs.Terms.{term_of}
use Rattle.file_print.proofs.TextSteps.{PrintedArgs}
use Rattle.file_print.proofs.printing.+append_term.Given as goal

abbrev pub decreases-append_term : goal.decreases-append_term
decreases-append_term l = 2 * term_size (term_of l.term.now)

abbrev pub decreases-append_argument : goal.decreases-append_argument
decreases-append_argument l = 2 * term_size (term_of l.term.now) + 1

abbrev pub decreases-append_args : goal.decreases-append_args
decreases-append_args l = 2 * spine_size l.args.now

abbrev pub invariant-append_args-loop-item : goal.invariant-append_args-loop-item
invariant-append_args-loop-item l = PrintedArgs l.sig l.depth l.items l.item-index l.initial.out l.out
