use Rattle.std.proofs.Common.{◌+◌, ◌/◌, ◌%◌, decimal, [], ◌∷◌, ◌++◌, append_assoc, arith, sym, ap, ◌∙◌}
use Rattle.std.proofs.lemmas.Result.{on_ok_weaker}
use Rattle.std.proofs.lemmas.Fmt.{decimal_digit, decimal_step}
use Rattle.answer_text.proofs.numerals.+append_decimal.Goals as goal

pub returns-then-number-lt10-clause-ok : goal.returns-then-number-lt10-clause-ok
returns-then-number-lt10-clause-ok t c =
    on_ok_weaker c.push.result (λ e. e ∙ ap (λ l. c.args.out.now ++ l) (sym (decimal_digit c.args.number c.if-number-lt10.true))) c.push.ensures.ok

pub returns-clause-ok : goal.returns-clause-ok
returns-clause-ok t c =
    let last = (48 + c.args.number % 10) ∷ [] in
    on_ok_weaker c.push-2.result
    (λ e. e ∙ ap (λ l. l ++ last) c.in_ok-append_decimal.ensures.ok ∙ append_assoc c.args.out.now (decimal (c.args.number / 10)) last
    ∙ ap (λ l. c.args.out.now ++ l) (sym (decimal_step c.args.number c.if-number-lt10.false (omega (arith, c.ranges.number)))))
    c.push-2.ensures.ok
