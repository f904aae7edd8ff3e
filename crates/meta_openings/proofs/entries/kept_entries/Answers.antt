use Rattle.std.proofs.Common.{◌<◌, length, arith, sym, ap, ◌∙◌, subst}
use Rattle.std.proofs.lemmas.List.{get_or_read}
use Rattle.std.proofs.lemmas.Result.{IfOk-weaker}
use Rattle.lf_terms.proofs.TypeLists.{length-types_of}
use Rattle.meta_openings.proofs.EachEntry.{EntriesUpTo, entries_begin, entries_more, entries_end, all_entries}
use Rattle.meta_openings.proofs.entries.kept_entries.Goals as goal

pub index-requires : goal.index-requires
index-requires c =
    omega (arith, c.requires.tables.1.one_more, sym (length-types_of c.as_slice-types.result.now) ∙ ap length c.as_slice-types.ensures, c.args.places.now.before.ok.0)

pub returns-then-index-types : goal.returns-then-index-types
returns-then-index-types c =
    let places = c.args.places.now in
    let types = c.as_slice-types.result.now in
    let counts = sym (length-types_of types) ∙ ap length c.as_slice-types.ensures in
    let within : length types < length places.before.items = omega (arith, c.requires.tables.1.one_more, counts) in
    let full = sym (get_or_read places.before.items (length types) c.index.result.now within c.index.ensures 0) ∙ c.if-index-types.true in
    IfOk-weaker c.copy.result _ _
    (λ r same. all_entries places.kept.now places.before.items types c.args.ctx.now r c.requires.tables.1.counted c.as_slice-types.ensures full same)
    c.copy.ensures

pub add_entry-requires-clause-mark : goal.add_entry-requires-clause-mark
add_entry-requires-clause-mark c =
    omega (arith, c.loop-place-test.true, c.requires.tables.0.as_many, sym (length-types_of c.as_slice-types.result.now) ∙ ap length c.as_slice-types.ensures)

pub add_entry-requires-clause-count : goal.add_entry-requires-clause-count
add_entry-requires-clause-count c =
    omega (arith, c.loop-place-test.true, c.requires.tables.1.one_more, sym (length-types_of c.as_slice-types.result.now) ∙ ap length c.as_slice-types.ensures)

pub loop-place-init : goal.loop-place-init
loop-place-init c =
    let kept = c.args.places.now.kept.now in
    let types = c.as_slice-types.result.now in
    subst (EntriesUpTo kept types 0) (sym c.in_ok-entries.ensures.items) (entries_begin kept types c.args.ctx.now c.requires.kept.0 c.as_slice-types.ensures c.requires.kept.1)

pub loop-place-preserved : goal.loop-place-preserved
loop-place-preserved c =
    let places = c.args.places.now in
    let types = c.as_slice-types.result.now in
    let place = c.loop-place.place in
    let counts = sym (length-types_of types) ∙ ap length c.as_slice-types.ensures in
    entries_more places.kept.now places.before.items types place c.index-types-place.result c.loop-place.entries.items _ _ c.loop-place-test.true c.index-types-place.is
    (λ k less. c.requires.tables.1.counted k (omega (arith, less, c.loop-place-test.true, counts))) (c.requires.tables.0.marked place (omega (arith, c.loop-place-test.true, counts)))
    c.in_ok-add_entry.ensures c.loop-place.invariant

pub returns : goal.returns
returns c =
    let kept = c.args.places.now.kept.now in
    IfOk-weaker c.from_vec.result _ _
    (λ made is. entries_end kept c.as_slice-types.result.now c.loop-place.place c.loop-place.entries.items c.args.ctx.now made c.loop-place-test.false c.as_slice-types.ensures is c.loop-place.invariant)
    c.from_vec.ensures
