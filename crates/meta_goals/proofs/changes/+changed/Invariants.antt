use Rattle.std.proofs.Common.{◌+◌, ◌*◌, take}
use Rattle.lf_definitions.specs.Syntax.{term_size, spine_size}
use Rattle.lf_definitions.specs.Instantiation.{InstantiatedSpine}
use Rattle.lf_terms.specs.Terms.{term_of, spine_of}
use Rattle.meta_goals.specs.Bindings.{assigning}
use Rattle.meta_goals.proofs.changes.+changed.Given as goal

abbrev pub decreases-changed : goal.decreases-changed
decreases-changed l = 2 * term_size (term_of l.term.now)

abbrev pub decreases-changed_all : goal.decreases-changed_all
decreases-changed_all l = 2 * spine_size l.terms.now + 1

abbrev pub decreases-changed_from : goal.decreases-changed_from
decreases-changed_from l = 2 * spine_size (spine_of l.items.now)

abbrev pub invariant-changed_all-loop-i : goal.invariant-changed_all-loop-i
invariant-changed_all-loop-i l = InstantiatedSpine (assigning l.assign) (spine_of (take l.i l.items)) (spine_of (take l.i l.items))

abbrev pub invariant-changed_from-loop-i : goal.invariant-changed_from-loop-i
invariant-changed_from-loop-i l = InstantiatedSpine (assigning l.assign) (spine_of (take l.i l.items)) (spine_of l.results.items)
