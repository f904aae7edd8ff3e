use Rattle.std.proofs.Common.{false, sym, ap, ◌∙◌}
use Rattle.std.proofs.lemmas.List.{get_or_read}
use Rattle.lf_definitions.specs.Syntax.{no_args, arg, joined}
use Rattle.lf_definitions.specs.Expansion.{eta}
use Rattle.lf_terms.specs.Shapes.{simple_type_of}
use Rattle.lf_terms.specs.Terms.{head_of, spine_of}
use Rattle.lf_terms.proofs.Expansions.{joined-no_args}
use Rattle.lf_terms.proofs.Spines.{spine_of-append}
use Rattle.meta_openings.specs.Variables.{variable_if}
use Rattle.meta_openings.proofs.variables.add_variable.Goals as goal

pub returns-in_ok-push : goal.returns-in_ok-push
returns-in_ok-push c =
    let a = c.args in
    let mark = sym c.if-index.true ∙ get_or_read a.places.now.marks.items a.place c.index.result.now c.requires c.index.ensures false in
    ap spine_of c.in_ok-push.ensures.items ∙ spine_of-append a.terms.now.items c.in_ok-eta.field-0 ∙ ap (λ t. joined (spine_of a.terms.now.items) (arg t no_args)) c.in_ok-eta.ensures
    ∙ ap (λ m. joined (spine_of a.terms.now.items) (variable_if m (eta (head_of a.variable) (simple_type_of a.shape.now)))) mark

pub returns-else-index : goal.returns-else-index
returns-else-index c =
    let a = c.args in
    let mark = sym c.if-index.false ∙ get_or_read a.places.now.marks.items a.place c.index.result.now c.requires c.index.ensures false in
    sym (joined-no_args (spine_of a.terms.now.items)) ∙ ap (λ m. joined (spine_of a.terms.now.items) (variable_if m (eta (head_of a.variable) (simple_type_of a.shape.now)))) mark
