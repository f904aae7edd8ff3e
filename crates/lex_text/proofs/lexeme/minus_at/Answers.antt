use Rattle.std.proofs.Common.{◌+◌, arith}
use Rattle.std.specs.Char.{len_utf8}
use Rattle.lex_text.proofs.Lexemes.{IsTokenAt-arrow, IsTokenAt-negative, BeginNoToken-last_minus, BeginNoToken-lone_minus}
use Rattle.lex_text.proofs.lexeme.minus_at.Goals as goal

pub returns-then-place-text : goal.returns-then-place-text
returns-then-place-text c =
    BeginNoToken-last_minus c.args.text.now c.args.start (c.args.start + 1) c.requires.boundary c.requires.minus (omega arith)

pub returns-then-character-eq62 : goal.returns-then-character-eq62
returns-then-character-eq62 c =
    IsTokenAt-arrow c.args.text.now c.args.start (c.args.start + 1) c.requires.boundary c.requires.minus
    c.character_at-character.result c.character_at-character.ensures c.if-character-eq62.true

pub returns-then-is_ascii_digit : goal.returns-then-is_ascii_digit
returns-then-is_ascii_digit c =
    let d = c.character_at-character.result in
    IsTokenAt-negative c.args.text.now c.args.start (c.args.start + 1) c.requires.boundary c.requires.minus
    d (c.args.start + 1 + len_utf8 d) c.end_of_run.result c.character_at-character.ensures c.if-is_ascii_digit.ensures.cases c.end_of_run.ensures.passes c.end_of_run.ensures.stops

pub returns-else-is_ascii_digit : goal.returns-else-is_ascii_digit
returns-else-is_ascii_digit c =
    let d = c.character_at-character.result in
    BeginNoToken-lone_minus c.args.text.now c.args.start (c.args.start + 1) c.requires.boundary c.requires.minus
    d (c.args.start + 1 + len_utf8 d) c.character_at-character.ensures c.if-character-eq62.false
    (λ h. let out = c.if-is_ascii_digit.ensures.cases in grind arith)
