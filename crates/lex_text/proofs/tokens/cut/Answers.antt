use Rattle.std.proofs.Common.{length, get_or, ap, ◌∙◌, sym, subst, arith}
use Rattle.lex_text.specs.Characters.{IsSeparator}
use Rattle.lex_text.proofs.Places.{Reads-ascii}
use Rattle.lex_text.proofs.Cutting.{Cutting, Cutting-end, Cutting-separator, Cutting-comment, Cutting-token}
use Rattle.lex_text.proofs.tokens.cut.Goals as goal

pub loop-place-preserved-then-is_separator : goal.loop-place-preserved-then-is_separator
loop-place-preserved-then-is_separator c =
    let same = c.as_bytes-bytes.ensures.value in
    let size = ap length same in
    Cutting-separator c.args.text.now c.loop-place.items c.loop-place.place c.loop-place.invariant (omega arith)
    (subst (λ bytes. IsSeparator (get_or bytes c.loop-place.place 0)) same (c.is_separator.ensures.0 c.if-is_separator.true))

pub end_of_run-place-requires : goal.end_of_run-place-requires
end_of_run-place-requires c =
    let same = c.as_bytes-bytes.ensures.value in
    let size = ap length same in
    let percent = ap (λ bytes. get_or bytes c.loop-place.place 0) (sym same) ∙ c.if-byte-eq37.true in
    (Reads-ascii c.args.text.now c.loop-place.place c.loop-place.invariant.boundary (omega arith) (omega arith)).next_place

pub loop-place-preserved-then-byte-eq37 : goal.loop-place-preserved-then-byte-eq37
loop-place-preserved-then-byte-eq37 c =
    let same = c.as_bytes-bytes.ensures.value in
    let size = ap length same in
    Cutting-comment c.args.text.now c.loop-place.items c.loop-place.place c.loop-place.invariant c.end_of_run-place.result (omega arith)
    (ap (λ bytes. get_or bytes c.loop-place.place 0) (sym same) ∙ c.if-byte-eq37.true) c.end_of_run-place.ensures.passes c.end_of_run-place.ensures.stops

pub loop-place-preserved : goal.loop-place-preserved
loop-place-preserved c =
    subst (λ items. Cutting c.args.text.now items c.in_ok-token.token.end) (sym c.in_ok-push.ensures.ok)
    (Cutting-token c.args.text.now c.loop-place.items c.loop-place.place c.loop-place.invariant c.in_ok-token.token c.in_ok-token.ensures.token)

pub returns-clause-cut : goal.returns-clause-cut
returns-clause-cut c =
    let size = ap length c.as_bytes-bytes.ensures.value in
    Cutting-end c.args.text.now c.loop-place.items c.loop-place.place c.loop-place.invariant (omega arith)
