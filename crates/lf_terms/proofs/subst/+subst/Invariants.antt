use Rattle.std.proofs.Common.{take}
use Rattle.lf_definitions.specs.Syntax.{bound}
use Rattle.lf_definitions.specs.Substitution.{SubstitutedSpine}
use Rattle.lf_terms.specs.Putting.{putting}
use Rattle.lf_terms.specs.Terms.{term_of, spine_of}
use Rattle.lf_terms.specs.Shapes.{simple_types_of}
use Rattle.lf_terms.proofs.Putting.{term_cost, args_cost, head_cost}
use Rattle.lf_terms.proofs.subst.+subst.Given as goal

abbrev pub decreases-put_at : goal.decreases-put_at
decreases-put_at l = head_cost (spine_of l.images.now.sub.now) (simple_types_of l.images.now.shapes.now) l.images.now.by l.depth (bound l.number) l.args

abbrev pub decreases-put_in : goal.decreases-put_in
decreases-put_in l = term_cost (spine_of l.images.now.sub.now) (simple_types_of l.images.now.shapes.now) l.images.now.by l.depth (term_of l.term.now)

abbrev pub decreases-put_in_all : goal.decreases-put_in_all
decreases-put_in_all l = args_cost (spine_of l.images.now.sub.now) (simple_types_of l.images.now.shapes.now) l.images.now.by l.depth l.terms.now

abbrev pub invariant-put_in_all-loop-i : goal.invariant-put_in_all-loop-i
invariant-put_in_all-loop-i l = SubstitutedSpine (putting (spine_of l.images.sub.now) l.images.by l.depth) (spine_of (take l.i l.items)) (spine_of l.results.items)
