use Rattle.std.proofs.Common.{◌++◌, decimal, sym, ap, ◌∙◌, append_assoc}
use Rattle.std.specs.List.{flat_map}
use Rattle.std.proofs.lemmas.Result.{on_ok_weaker}
use Rattle.answer_text.specs.Texts.{listed_text}
use Rattle.answer_text.specs.Parts.{other_text}
use Rattle.answer_text.proofs.Listed.{listed_apart}
use Rattle.answer_text.proofs.numerals.append_listed.Goals as goal

pub returns-clause-ok : goal.returns-clause-ok
returns-clause-ok c =
    let out = c.args.out.now in
    let first = c.in-Some.first.now in
    let rest = c.in-Some.rest.now in
    on_ok_weaker c.append_others.result
    (λ e. e ∙ ap (λ l. l ++ flat_map other_text rest) c.in_ok-append_decimal.ensures.ok ∙ append_assoc out (decimal first) (flat_map other_text rest)
    ∙ ap (λ l. out ++ l) (sym (listed_apart first rest)) ∙ ap (λ l. out ++ listed_text l) (sym c.in-Some.ensures.cases.0 ∙ c.as_slice.ensures))
    c.append_others.ensures.ok
