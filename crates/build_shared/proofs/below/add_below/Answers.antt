use Rattle.std.proofs.Common.{◌++◌, sym, ap, ◌∙◌, take_all, append-nil, arith}
use Rattle.meta_goals.specs.Entries.{binding_of}
use Rattle.build_shared.specs.Whole.{bindings_below}
use Rattle.build_shared.proofs.BindingLists.{below_next, below_before, nothing_within}
use Rattle.build_shared.proofs.below.add_below.Goals as goal

pub loop-place-init : goal.loop-place-init
loop-place-init c = sym (append-nil c.args.below.now)

pub unreachable-requires : goal.unreachable-requires
unreachable-requires c = nothing_within c.args.entries.now c.loop-place.place (omega (arith, c.loop-place-test.true, c.len-place-end.ensures)) (sym c.in-None.ensures)

pub add_if_below-requires : goal.add_if_below-requires
add_if_below-requires c =
    below_before c.args.first c.args.entries.now c.loop-place.place (binding_of (c.in-Some.id, c.in-Some.entry.now)) c.args.below.now c.loop-place.below (sym c.in-Some.ensures) c.requires c.loop-place.invariant

pub loop-place-preserved : goal.loop-place-preserved
loop-place-preserved c =
    below_next c.args.first c.args.entries.now c.loop-place.place (binding_of (c.in-Some.id, c.in-Some.entry.now)) c.args.below.now c.loop-place.below c.add_if_below.new.below (sym c.in-Some.ensures) c.loop-place.invariant
    c.in_ok-add_if_below-in-Some.ensures

pub returns : goal.returns
returns c = c.loop-place.invariant ∙ ap (λ l. c.args.below.now ++ bindings_below c.args.first l) (take_all c.loop-place.place c.args.entries.now (omega (arith, c.loop-place-test.false, c.len-place-end.ensures)))
