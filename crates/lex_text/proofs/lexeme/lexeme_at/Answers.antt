use Rattle.std.proofs.Common.{◌+◌, sym, subst}
use Rattle.std.specs.Char.{len_utf8}
use Rattle.lex_text.specs.Reading.{IsTokenAt}
use Rattle.lex_text.proofs.Lexemes.{IsTokenAt-sign}
use Rattle.lex_text.proofs.lexeme.lexeme_at.Goals as goal

pub returns-in-Some : goal.returns-in-Some
returns-in-Some c =
    let first = c.character_at-first.result in
    subst (λ n. IsTokenAt c.args.text.now c.args.start c.in-Some.mark (c.args.start + n)) (sym c.len_utf8.ensures.value)
    (IsTokenAt-sign c.args.text.now c.args.start first (c.args.start + len_utf8 first) c.requires.boundary c.character_at-first.ensures
    c.in-Some.mark c.in-Some.ensures)
