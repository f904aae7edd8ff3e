use Rattle.std.proofs.Common.{◌<◌, ◌≤◌, All, arith, take, subst}
use Rattle.std.proofs.lemmas.List.{take_all}
use Rattle.std.proofs.lemmas.List.Elements.{All-weaker, All-more}
use Rattle.meta_patterns.proofs.pattern.table_size.Goals as goal

pub loop-i-preserved : goal.loop-i-preserved
loop-i-preserved c =
    let old = c.loop-i.greatest in
    let new = c.greater-greatest.result in
    All-more (λ n. n ≤ new) c.args.numbers.now c.loop-i.i 0 c.loop-i-test.true
    (All-weaker (λ n. n ≤ old) (λ n. n ≤ new) (λ n le. omega (arith, le, c.greater-greatest.ensures.first)) (take c.loop-i.i c.args.numbers.now) c.loop-i.invariant)
    (omega (arith, c.greater-greatest.ensures.second))

pub returns-in-Some : goal.returns-in-Some
returns-in-Some c =
    let size = c.in-Some.size in
    let greatest = c.loop-i.greatest in
    All-weaker (λ n. n ≤ greatest) (λ n. n < size) (λ n le. omega (arith, le, c.in-Some.ensures)) c.args.numbers.now
    (subst (All (λ n. n ≤ greatest)) (take_all c.loop-i.i c.args.numbers.now c.loop-i-test.false) c.loop-i.invariant)
