use Rattle.std.proofs.Common.{◌≡◌, ◌-◌, Some, length, sym, ap, ◌∙◌, arith}
use Rattle.elab_terms.specs.Names.{variable_of}
use Rattle.elab_terms.specs.Binding.{bound_of}
use Rattle.elab_terms.proofs.BinderLevels.{bound_count, absent_name, level_read, level_within, named_variable, variable_at}
use Rattle.elab_terms.proofs.bound_names.BoundNames.find.Goals as goal

pub returns-in_err-place : goal.returns-in_err-place
returns-in_err-place c =
    let held = c.self.inside in
    c.from_residual.ensures
    ∙ sym (ap (λ b. variable_of b c.args.name.now) (sym c.self.view_is) ∙ absent_name held.names held.levels.items held.binders.items c.self.invariant c.args.name.now (sym c.in_err-place.ensures))

pub returns-in_err-level : goal.returns-in_err-level
returns-in_err-level c =
    let held = c.self.inside in
    let bound = bound_of held.names held.binders.items in
    c.from_residual-in_err-level.ensures
    ∙ sym (ap (λ b. variable_of b c.args.name.now) (sym c.self.view_is)
    ∙ named_variable held.names held.levels.items held.binders.items c.self.invariant c.args.name.now c.in_ok-place.place c.index.result.now (sym c.in_ok-place.ensures) c.index.ensures
    ∙ ap (variable_at (length bound)) c.in_err-level.was)

pub overflow_sub-result : goal.overflow_sub-result
overflow_sub-result c =
    let held = c.self.inside in
    let level = level_read held.names held.levels.items held.binders.items c.self.invariant c.args.name.now c.in_ok-place.place c.index.result.now (sym c.in_ok-place.ensures) c.index.ensures in
    let within = level_within (bound_of held.names held.binders.items) c.args.name.now c.in_ok-level.level (sym level ∙ c.in_ok-level.was) in
    omega (arith, within, bound_count held.names held.binders.items, c.len.ensures, held.binders.ok.0)

pub overflow_sub-result-2 : goal.overflow_sub-result-2
overflow_sub-result-2 c =
    let held = c.self.inside in
    let level = level_read held.names held.levels.items held.binders.items c.self.invariant c.args.name.now c.in_ok-place.place c.index.result.now (sym c.in_ok-place.ensures) c.index.ensures in
    let within = level_within (bound_of held.names held.binders.items) c.args.name.now c.in_ok-level.level (sym level ∙ c.in_ok-level.was) in
    omega (arith, within, bound_count held.names held.binders.items, c.len.ensures, held.binders.ok.0)

pub returns : goal.returns
returns c =
    let held = c.self.inside in
    let bound = bound_of held.names held.binders.items in
    let count : c.len.result ≡ length bound = omega (arith, bound_count held.names held.binders.items, c.len.ensures, held.binders.ok.0) in
    sym (ap (λ b. variable_of b c.args.name.now) (sym c.self.view_is)
    ∙ named_variable held.names held.levels.items held.binders.items c.self.invariant c.args.name.now c.in_ok-place.place c.index.result.now (sym c.in_ok-place.ensures) c.index.ensures
    ∙ ap (variable_at (length bound)) c.in_ok-level.was ∙ ap (λ n. Some (n - 1 - c.in_ok-level.level)) (sym count))
