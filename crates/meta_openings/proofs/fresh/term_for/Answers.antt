use Rattle.std.proofs.Common.{length, sym, ap, ap₂, ◌∙◌}
use Rattle.std.proofs.lemmas.Result.{IfOk-weaker}
use Rattle.lf_definitions.specs.Syntax.{joined}
use Rattle.lf_definitions.specs.Renaming.{next_by, rename_spine}
use Rattle.typing_laws.proofs.Binders.{length-shapes_of_types}
use Rattle.lf_terms.specs.Terms.{term_of}
use Rattle.opening_laws.specs.Openings.{kept_variables}
use Rattle.meta_openings.proofs.FreshGoals.{plain_term, term_under}
use Rattle.meta_openings.proofs.fresh.term_for.Goals as goal

pub kept_variables-requires : goal.kept_variables-requires
kept_variables-requires c = c.requires.tables

pub returns-then-count-eq0 : goal.returns-then-count-eq0
returns-then-count-eq0 c =
    let setting = c.args.setting.now in
    plain_term c.args.number (kept_variables setting.places.now.kept.now (length setting.shapes.now) setting.entries.now) c.in_ok-copy.field-0 c.args.shape.now.args (sym c.len-count.ensures ∙ c.if-count-eq0.true)
    (c.in_ok-copy.ensures ∙ c.requires.variables_are)

pub returns : goal.returns
returns c =
    let setting = c.args.setting.now in
    let kept = setting.places.now.kept.now in
    let g = c.requires in
    let count = c.len-count.result in
    let counts = sym (ap length g.shapes_are ∙ length-shapes_of_types g.context) in
    let outer = c.in_ok-outer.ensures g.context setting.entries.now g.shapes_are g.are_kept ∙ ap (λ n. rename_spine (next_by count) (kept_variables kept n setting.entries.now)) counts in
    IfOk-weaker c.abstracted.result _ _
    (λ term made. term_under c.args.number count c.args.shape.now.args (kept_variables kept (length setting.shapes.now) setting.entries.now) c.in_ok-args.args (term_of term) c.len-count.ensures
    (c.in_ok-args.ensures ∙ ap₂ joined outer c.in_ok-own.ensures) made)
    c.abstracted.ensures
