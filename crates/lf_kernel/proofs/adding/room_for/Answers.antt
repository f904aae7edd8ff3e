use Rattle.std.proofs.Common.{arith, sym, ◌∙◌}
use Rattle.lf_definitions.specs.Signatures.{names_of}
use Rattle.basics.proofs.NamePlaces.{place_absent}
use Rattle.lf_kernel.proofs.adding.room_for.Goals as goal

pub returns-then-size-ge-MOST_SYMBOLS : goal.returns-then-size-ge-MOST_SYMBOLS
returns-then-size-ge-MOST_SYMBOLS c =
    (place_absent c.args.name.now (names_of c.args.sig.now) (sym c.order_of.ensures ∙ c.in-None.is), omega (arith, c.size.ensures, c.has_few_entries.ensures, c.if-size-ge-MOST_SYMBOLS.true))

pub returns-else-size-ge-MOST_SYMBOLS : goal.returns-else-size-ge-MOST_SYMBOLS
returns-else-size-ge-MOST_SYMBOLS c =
    (place_absent c.args.name.now (names_of c.args.sig.now) (sym c.order_of.ensures ∙ c.in-None.is), omega (arith, c.size.ensures, c.if-size-ge-MOST_SYMBOLS.false))
