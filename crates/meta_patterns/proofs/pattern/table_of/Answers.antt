use Rattle.std.proofs.Common.{◌<◌, ◌-◌, length, sym, ap, ◌∙◌, get_or, refl, None, arith}
use Rattle.std.specs.Prelude.{is_some}
use Rattle.std.proofs.lemmas.List.{get_or_default}
use Rattle.std.proofs.lemmas.List.Elements.{All-get_or}
use Rattle.meta_patterns.proofs.Tables.{table_stops, table_goes_on}
use Rattle.meta_patterns.proofs.pattern.table_of.Goals as goal

pub returns-then-is_some : goal.returns-then-is_some
returns-then-is_some c =
    let ns = c.args.numbers.now in
    let table = c.loop-i.table.items in
    let k = length ns - 1 - c.loop-i.i in
    let x = get_or ns k 0 in
    let room : x < length table = All-get_or (λ n. n < length table) ns k 0 (omega (arith, c.loop-i-test.true)) c.loop-i.invariant.has_room in
    table_stops ns c.loop-i.i x table c.loop-i.invariant c.loop-i-test.true refl
    (ap is_some (get_or_default table x None c.index.result.now room ∙ sym c.index.ensures) ∙ sym c.is_some.ensures ∙ c.if-is_some.true)

pub loop-i-preserved : goal.loop-i-preserved
loop-i-preserved c =
    let ns = c.args.numbers.now in
    let table = c.loop-i.table.items in
    let k = length ns - 1 - c.loop-i.i in
    let x = get_or ns k 0 in
    let room : x < length table = All-get_or (λ n. n < length table) ns k 0 (omega (arith, c.loop-i-test.true)) c.loop-i.invariant.has_room in
    table_goes_on ns c.loop-i.i x table c.loop-i.invariant c.loop-i-test.true refl room
    (ap is_some (get_or_default table x None c.index.result.now room ∙ sym c.index.ensures) ∙ sym c.is_some.ensures ∙ c.if-is_some.false)
