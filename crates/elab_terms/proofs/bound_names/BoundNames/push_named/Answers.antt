use Rattle.std.proofs.Common.{◌≡◌, ◌<◌, ◌-◌, ◌^◌, Some, ◌∷◌, length, set, sym, ap, ◌∙◌, subst, arith}
use Rattle.elab_terms.specs.Binding.{bound_of, IsIndexed}
use Rattle.elab_terms.proofs.BinderLevels.{bound_count, same_bound, still_indexed, pushed_named, named_more, always_err}
use Rattle.elab_terms.proofs.bound_names.BoundNames.push_named.Goals as goal

pub invariant_of-self-in_err-push : goal.invariant_of-self-in_err-push
invariant_of-self-in_err-push c =
    let held = c.self.inside in
    let names = c.place_in.new.names in
    let levels = c.place_in.new.levels.items in
    subst (IsIndexed names levels) (sym c.in_err-push.ensures.items)
    (still_indexed c.args.name.now held.names names held.levels.items levels held.binders.items c.in_ok-place.ensures.adds c.self.invariant)

pub returns-in_err-push-clause-err : goal.returns-in_err-push-clause-err
returns-in_err-push-clause-err c =
    let held = c.self.inside in
    let names = c.place_in.new.names in
    let levels = c.place_in.new.levels.items in
    always_err c.from_residual-in_err-push.result
    (ap (bound_of names) c.in_err-push.ensures.items ∙ same_bound c.args.name.now held.names names held.levels.items levels held.binders.items c.in_ok-place.ensures.adds c.self.invariant
    ∙ c.self.view_is)

pub invariant_of-self-2 : goal.invariant_of-self-2
invariant_of-self-2 c =
    let held = c.self.inside in
    let names = c.place_in.new.names in
    let levels = c.place_in.new.levels.items in
    let binders = held.binders.items in
    let is = still_indexed c.args.name.now held.names names held.levels.items levels binders c.in_ok-place.ensures.adds c.self.invariant in
    let room : length binders < 2 ^ 32 - 1 = omega (arith, c.requires, bound_count held.names binders, ap length c.self.view_is) in
    let level : c.len-level.result ≡ length (bound_of names binders) = omega (arith, c.len-level.ensures, held.binders.ok.0, bound_count names binders) in
    subst (IsIndexed names (set levels c.in_ok-place.place (Some c.len-level.result))) (sym c.in_ok-push.ensures.items)
    (pushed_named names levels binders is c.args.name.now c.in_ok-place.place c.in_ok-place.ensures.place c.index-outer.result.now c.index-outer.ensures room c.len-level.result level)

pub returns-clause-ok : goal.returns-clause-ok
returns-clause-ok c =
    let held = c.self.inside in
    let names = c.place_in.new.names in
    let levels = c.place_in.new.levels.items in
    let binders = held.binders.items in
    let is = still_indexed c.args.name.now held.names names held.levels.items levels binders c.in_ok-place.ensures.adds c.self.invariant in
    ap (bound_of names) c.in_ok-push.ensures.items
    ∙ named_more names levels binders is c.args.name.now c.in_ok-place.place c.in_ok-place.ensures.place c.index-outer.result.now c.index-outer.ensures
    ∙ ap (λ b. Some c.args.name.now ∷ b) (same_bound c.args.name.now held.names names held.levels.items levels binders c.in_ok-place.ensures.adds c.self.invariant ∙ c.self.view_is)
