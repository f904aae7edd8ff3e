use Rattle.std.proofs.Common.{map, sym, ap, ◌∙◌, take_all, arith}
use Rattle.lf_definitions.specs.GoalLists.{all_goals}
use Rattle.meta_goals.specs.Entries.{binding_of}
use Rattle.build_shared.proofs.BindingLists.{nothing_within}
use Rattle.goal_advance.specs.Following.{put_later}
use Rattle.goal_advance.proofs.EarlierEntries.{may_be_put, not_there, earlier_more}
use Rattle.goal_advance.proofs.follow.earlier_under.Goals as goal

pub loop-place-init : goal.loop-place-init
loop-place-init c = λ n m. c.new-all.ensures

pub unreachable-requires : goal.unreachable-requires
unreachable-requires c = nothing_within c.args.earlier.now c.loop-place.place (omega (arith, c.loop-place-test.true, c.len-place-end.ensures)) (sym c.in-None.ensures)

pub add_under-requires-clause-instantiates : goal.add_under-requires-clause-instantiates
add_under-requires-clause-instantiates c =
    may_be_put c.requires.0 c.args.earlier.now c.args.later.now c.requires.1 c.loop-place.place (binding_of (c.in-Some.id, c.in-Some.entry.now)) (sym c.in-Some.ensures)

pub add_under-requires-clause-absent : goal.add_under-requires-clause-absent
add_under-requires-clause-absent c =
    not_there c.requires.0 c.args.earlier.now c.args.later.now c.requires.1 c.loop-place.place (binding_of (c.in-Some.id, c.in-Some.entry.now)) (sym c.in-Some.ensures) c.loop-place.all
    (c.loop-place.invariant c.requires.0 c.requires.1)

pub loop-place-preserved : goal.loop-place-preserved
loop-place-preserved c =
    let made = c.in_ok-add_under-in-Some.ensures in
    λ n m.
    earlier_more n c.args.earlier.now c.args.later.now m c.loop-place.place (binding_of (c.in-Some.id, c.in-Some.entry.now)) (sym c.in-Some.ensures) c.loop-place.all c.add_under.new.all made.0
    (c.loop-place.invariant n m) made.1 made.2

pub returns : goal.returns
returns c =
    λ n m.
    c.loop-place.invariant n m
    ∙ ap (map (put_later (all_goals m.between) c.args.later.now)) (take_all c.loop-place.place c.args.earlier.now (omega (arith, c.loop-place-test.false, c.len-place-end.ensures)))
