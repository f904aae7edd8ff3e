use Rattle.std.proofs.Common.{sym, ◌∙◌}
use Rattle.lex_text.proofs.Places.{IsPlace-boundary, Reads-from_spelled}
use Rattle.lex_text.proofs.reading.character_at.Goals as goal

pub range_from-requires : goal.range_from-requires
range_from-requires c some = IsPlace-boundary c.args.text.now c.args.place c.requires.boundary

pub returns : goal.returns
returns c =
    Reads-from_spelled c.args.text.now c.next.new.self.rest.now c.args.place c.in-Some.character c.requires.boundary
    (sym c.range_from.ensures.value ∙ (sym c.chars.ensures.rest ∙ c.in-Some.ensures.steps.0))
