use Rattle.std.proofs.Common.{map, take_all, sym, ap, ◌∙◌, arith}
use Rattle.meta_goals.specs.Entries.{binding_of}
use Rattle.proof_replay.specs.Putting.{seen_final, put_into, CanEnd}
use Rattle.proof_replay.proofs.Places.{nothing_within, All-at, entries_more}
use Rattle.proof_replay.proofs.putting.final_entries.Goals as goal

pub loop-place-init : goal.loop-place-init
loop-place-init c = λ goals all. ap (map seen_final) c.new-entries.ensures.items

pub unreachable-requires : goal.unreachable-requires
unreachable-requires c = nothing_within c.args.build.now c.loop-place.place (omega (arith, c.loop-place-test.true, c.len-place-end.ensures)) (sym c.in-None.ensures)

pub add_final-requires : goal.add_final-requires
add_final-requires c =
    (All-at (CanEnd c.requires.0 c.args.finals.now) c.args.build.now c.loop-place.place (binding_of (c.in-Some.id, c.in-Some.entry.now)) c.requires.1 (sym c.in-Some.ensures)).instantiates

pub loop-place-preserved : goal.loop-place-preserved
loop-place-preserved c =
    let made = c.in_ok-add_final-in-Some.ensures in
    λ goals all.
    entries_more goals c.args.finals.now c.args.build.now c.loop-place.place (binding_of (c.in-Some.id, c.in-Some.entry.now)) all (sym c.in-Some.ensures) (map seen_final c.loop-place.entries.items)
    (map seen_final c.add_final.new.entries.items) (c.loop-place.invariant goals all) made.0 made.1 made.2

pub returns : goal.returns
returns c =
    λ goals all.
    c.loop-place.invariant goals all
    ∙ ap (map (put_into goals c.args.finals.now)) (take_all c.loop-place.place c.args.build.now (omega (arith, c.loop-place-test.false, c.len-place-end.ensures)))
