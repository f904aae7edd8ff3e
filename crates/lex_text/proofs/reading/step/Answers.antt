use Rattle.std.proofs.Common.{arith, ◌+◌}
use Rattle.std.specs.Char.{len_utf8}
use Rattle.lex_text.specs.Reading.{Belongs}
use Rattle.lex_text.proofs.Places.{StopsBefore-end, StopsBefore-character, step_on}
use Rattle.lex_text.proofs.reading.step.Goals as goal

pub returns-then-place-text : goal.returns-then-place-text
returns-then-place-text c = StopsBefore-end (Belongs c.args.run) c.args.text.now c.args.place (omega arith)

pub returns-then-belongs : goal.returns-then-belongs
returns-then-belongs c =
    let character = c.character_at-character.result in
    step_on (Belongs c.args.run) c.args.text.now c.args.place character c.len_utf8.result c.requires
    c.character_at-character.ensures c.len_utf8.ensures.value (c.belongs.ensures.0 c.if-belongs.true)

pub returns-else-belongs : goal.returns-else-belongs
returns-else-belongs c =
    let character = c.character_at-character.result in
    StopsBefore-character (Belongs c.args.run) c.args.text.now c.args.place character (c.args.place + len_utf8 character) c.requires
    c.character_at-character.ensures (λ b. let yes = c.belongs.ensures.1 b in let no = c.if-belongs.false in cc)
