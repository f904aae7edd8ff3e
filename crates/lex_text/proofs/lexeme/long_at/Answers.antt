use Rattle.std.proofs.Common.{sym, ◌∙◌, arith}
use Rattle.lex_text.proofs.Lexemes.{IsTokenAt-word, IsTokenAt-variable, IsTokenAt-digits, BeginNoToken-at}
use Rattle.lex_text.proofs.lexeme.long_at.Goals as goal

pub returns-then-first-eq95 : goal.returns-then-first-eq95
returns-then-first-eq95 c =
    IsTokenAt-variable c.args.text.now c.args.start c.args.first c.args.next c.requires.boundary c.requires.first
    c.end_of_run.result c.if-first-eq95.true c.end_of_run.ensures.passes c.end_of_run.ensures.stops

pub returns-then-is_ascii_digit : goal.returns-then-is_ascii_digit
returns-then-is_ascii_digit c =
    let run = c.end_of_run-then-is_ascii_digit.ensures in
    IsTokenAt-digits c.args.text.now c.args.start c.args.first c.args.next c.end_of_run-then-is_ascii_digit.result
    c.requires.boundary c.requires.first c.if-is_ascii_digit.ensures.cases run.passes run.stops

pub returns-then-may_start : goal.returns-then-may_start
returns-then-may_start c =
    let run = c.end_of_run-then-may_start.ensures in
    IsTokenAt-word c.args.text.now c.args.start c.args.first c.args.next c.requires.boundary c.requires.first
    c.end_of_run-then-may_start.result (sym c.may_start.ensures ∙ c.if-may_start.true) run.passes run.stops

pub returns-else-may_start : goal.returns-else-may_start
returns-else-may_start c =
    BeginNoToken-at c.args.text.now c.args.start c.args.first c.args.next c.requires.boundary c.requires.first (record {
      no_sign = c.requires.no_sign;
      no_minus = c.if-first-eq45.false;
      no_underscore = c.if-first-eq95.false;
      no_digit = λ h. let out = c.if-is_ascii_digit.ensures.cases in grind arith;
      no_start = sym c.may_start.ensures ∙ c.if-may_start.false;
    })
