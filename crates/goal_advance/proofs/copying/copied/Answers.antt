use Rattle.std.proofs.Common.{[], ◌∷◌, ◌++◌, sym, ap, ◌∙◌, take_all, arith}
use Rattle.meta_goals.specs.Bindings.{binding_for}
use Rattle.meta_goals.specs.Entries.{binding_of}
use Rattle.build_shared.proofs.BindingLists.{take_found, before_differ, none_of, nothing_within}
use Rattle.goal_advance.proofs.copying.copied.Goals as goal

pub unreachable-requires : goal.unreachable-requires
unreachable-requires c = nothing_within c.args.assign.now c.loop-place.place (omega (arith, c.loop-place-test.true, c.len-place-end.ensures)) (sym c.in-None.ensures)

pub add_copy-requires : goal.add_copy-requires
add_copy-requires c =
    let b = binding_of (c.in-Some.id, c.in-Some.entry.now) in
    ap (λ l. binding_for l b.number) c.loop-place.invariant ∙ none_of _ b.number (before_differ c.args.assign.now c.loop-place.place b (sym c.in-Some.ensures) c.requires)

pub loop-place-preserved : goal.loop-place-preserved
loop-place-preserved c =
    let b = binding_of (c.in-Some.id, c.in-Some.entry.now) in
    c.in_ok-add_copy-in-Some.ensures ∙ ap (λ l. l ++ b ∷ []) c.loop-place.invariant ∙ sym (take_found c.args.assign.now c.loop-place.place b (sym c.in-Some.ensures))

pub returns : goal.returns
returns c = c.loop-place.invariant ∙ take_all c.loop-place.place c.args.assign.now (omega (arith, c.loop-place-test.false, c.len-place-end.ensures))
