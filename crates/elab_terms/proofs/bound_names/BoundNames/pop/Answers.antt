use Rattle.std.proofs.Common.{[], ◌∷◌, ◌++◌, ap, ◌∙◌, arith}
use Rattle.elab_terms.proofs.BinderLevels.{popped_bound, popped_none, popped_named, popped_place}
use Rattle.elab_terms.proofs.bound_names.BoundNames.pop.Goals as goal

pub invariant_of-self-in_default-binder : goal.invariant_of-self-in_default-binder
invariant_of-self-in_default-binder c =
    let held = c.self.inside in
    let rest = c.pop.new.self.items in
    popped_none held.names held.levels.items rest held.binders.items c.self.invariant (c.in-Some.ensures.items ∙ ap (λ b. rest ++ b ∷ []) c.in_default-binder.is)

pub returns-in_default-binder : goal.returns-in_default-binder
returns-in_default-binder c = λ name outside is.
    let held = c.self.inside in
    popped_bound held.names c.pop.new.self.items held.binders.items c.in-Some.binder name outside c.in-Some.ensures.items (c.self.view_is ∙ is)

pub index_mut-requires : goal.index_mut-requires
index_mut-requires c =
    let held = c.self.inside in
    let rest = c.pop.new.self.items in
    let within =
    popped_place held.names held.levels.items rest held.binders.items c.self.invariant c.in-Some-binder.named (c.in-Some.ensures.items ∙ ap (λ b. rest ++ b ∷ []) c.in-Some-binder.is) in
    omega (arith, within, held.levels.ok.0)

pub invariant_of-self-2 : goal.invariant_of-self-2
invariant_of-self-2 c =
    let held = c.self.inside in
    let rest = c.pop.new.self.items in
    popped_named held.names held.levels.items rest held.binders.items c.self.invariant c.in-Some-binder.named (c.in-Some.ensures.items ∙ ap (λ b. rest ++ b ∷ []) c.in-Some-binder.is)

pub returns : goal.returns
returns c = λ name outside is.
    let held = c.self.inside in
    popped_bound held.names c.pop.new.self.items held.binders.items c.in-Some.binder name outside c.in-Some.ensures.items (c.self.view_is ∙ is)
