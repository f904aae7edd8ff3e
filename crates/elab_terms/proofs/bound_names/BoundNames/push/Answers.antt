use Rattle.std.proofs.Common.{None, ◌∷◌, length, sym, ap, ◌∙◌, subst, arith}
use Rattle.std.specs.Prelude.{option_copied}
use Rattle.elab_terms.specs.Binding.{bound_of, IsIndexed}
use Rattle.elab_terms.proofs.BinderLevels.{bound_count, bound_more, pushed_none}
use Rattle.elab_terms.proofs.bound_names.BoundNames.push.Goals as goal

pub invariant_of-self-in-None : goal.invariant_of-self-in-None
invariant_of-self-in-None c =
    let held = c.self.inside in
    subst (IsIndexed held.names held.levels.items) (sym c.in_ok-push-in-None.ensures.items)
    (pushed_none held.names held.levels.items held.binders.items c.self.invariant (omega (arith, c.if-len.false, c.len.ensures, held.binders.ok.0)))

pub push_named-requires : goal.push_named-requires
push_named-requires c =
    let held = c.self.inside in
    omega (arith, c.if-len.false, c.len.ensures, held.binders.ok.0, bound_count held.names held.binders.items, ap length c.self.view_is)

pub returns-in_ok-push-in-None-clause-ok : goal.returns-in_ok-push-in-None-clause-ok
returns-in_ok-push-in-None-clause-ok c =
    let held = c.self.inside in
    ap (bound_of held.names) c.in_ok-push-in-None.ensures.items ∙ bound_more held.names held.binders.items None ∙ ap (λ b. None ∷ b) c.self.view_is
    ∙ ap (λ n. option_copied n ∷ c.args.self.now) (sym c.in-None.is)
