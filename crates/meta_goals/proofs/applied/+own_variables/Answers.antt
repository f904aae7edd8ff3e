use Rattle.std.proofs.Common.{length, sym, ap, ◌∙◌, arith}
use Rattle.lf_definitions.specs.Syntax.{at, arrows, base, shapes_size}
use Rattle.lf_definitions.specs.Expansion.{own_variables}
use Rattle.lf_definitions.proofs.Telescopes.{arity-arrows}
use Rattle.lf_terms.specs.Terms.{head_of, term_of}
use Rattle.lf_terms.specs.Shapes.{simple_type_of}
use Rattle.lf_terms.proofs.ShapeLists.{item_size, length-simple_types_of}
use Rattle.meta_goals.proofs.BodyFacts.{variable_read, own_so_far, own_to_the_end}
use Rattle.meta_goals.proofs.applied.+own_variables.Goals as goal

pub is_variable-returns-then-is_raised : goal.is_variable-returns-then-is_raised
is_variable-returns-then-is_raised t c = λ own.
    let found = c.in-Some-At-Bound-default in
    let inner = c.as_slice-inner.result.now in
    variable_read (simple_type_of c.args.shape.now) (length inner) c.args.number found.raised (term_of c.args.term.now) (term_of found.field-0.now) found.args found.ensures
    (ap term_of found.field-0-is ∙ ap (λ h. at (head_of h) found.args) found.field-0-0-is)
    (c.is_raised.ensures c.if-is_raised.true)
    (sym (length-simple_types_of inner) ∙ ap length c.as_slice-inner.ensures ∙ sym (arity-arrows c.args.shape.now.args))
    (sym c.as_slice.ensures ∙ c.are_own_variables.ensures own ∙ ap (λ l. own_variables (arrows l base)) c.as_slice-inner.ensures)

pub are_own_variables-returns : goal.are_own_variables-returns
are_own_variables-returns t c = λ _. own_to_the_end c.args.terms.now c.args.shapes.now c.loop-i.i c.if-terms-count.false c.loop-i-test.false c.loop-i.invariant

pub are_own_variables-loop-i-preserved : goal.are_own_variables-loop-i-preserved
are_own_variables-loop-i-preserved t c =
    own_so_far c.args.terms.now c.args.shapes.now c.loop-i.i c.index-terms-i.result c.index-shapes-i.result c.if-terms-count.false c.loop-i-test.true c.index-terms-i.is c.index-shapes-i.is
    (c.is_variable.ensures c.if-not-is_variable.false) c.loop-i.invariant

pub are_own_variables-is_variable-requires : goal.are_own_variables-is_variable-requires
are_own_variables-is_variable-requires t c =
    (omega (arith, c.decreases, item_size c.args.shapes.now c.loop-i.i c.index-shapes-i.result c.loop-i-test.true c.index-shapes-i.is), tt)

pub is_variable-are_own_variables-requires : goal.is_variable-are_own_variables-requires
is_variable-are_own_variables-requires t c = (omega (arith, c.decreases, ap shapes_size c.as_slice-inner.ensures), tt)
