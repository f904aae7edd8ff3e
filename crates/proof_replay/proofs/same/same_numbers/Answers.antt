use Rattle.std.proofs.Common.{sym, ◌∙◌, arith, refl}
use Rattle.std.specs.Prelude.{nat_eq}
use Rattle.std.proofs.lemmas.Bool.{eq-eqb, ne_eqb}
use Rattle.std.proofs.lemmas.List.{drop_more}
use Rattle.proof_replay.proofs.Places.{numbers_pairwise, other_length, same_at_end, same_next, differs_here}
use Rattle.proof_replay.proofs.same.same_numbers.Goals as goal

pub returns-then-numbers-others : goal.returns-then-numbers-others
returns-then-numbers-others c =
    let xs = c.args.numbers.now in
    let ys = c.args.others.now in
    sym (numbers_pairwise xs ys ∙ other_length nat_eq xs ys c.if-numbers-others.true)

pub loop-i-init : goal.loop-i-init
loop-i-init c = refl

pub loop-i-preserved : goal.loop-i-preserved
loop-i-preserved c =
    let xs = c.args.numbers.now in
    let ys = c.args.others.now in
    let i = c.loop-i.i in
    same_next nat_eq xs ys i _ _ (drop_more xs i 0 (omega (arith, c.loop-i-test.true))) (drop_more ys i 0 (omega (arith, c.loop-i-test.true, c.if-numbers-others.false))) c.loop-i.invariant
    (eq-eqb _ _ c.if-number-other.false)

pub returns-then-number-other : goal.returns-then-number-other
returns-then-number-other c =
    let xs = c.args.numbers.now in
    let ys = c.args.others.now in
    let i = c.loop-i.i in
    sym (numbers_pairwise xs ys
    ∙ differs_here nat_eq xs ys i _ _ (drop_more xs i 0 (omega (arith, c.loop-i-test.true))) (drop_more ys i 0 (omega (arith, c.loop-i-test.true, c.if-numbers-others.false))) c.loop-i.invariant
    (ne_eqb _ _ c.if-number-other.true))

pub returns : goal.returns
returns c =
    let xs = c.args.numbers.now in
    let ys = c.args.others.now in
    sym (numbers_pairwise xs ys ∙ same_at_end nat_eq xs ys c.loop-i.i c.if-numbers-others.false (omega (arith, c.loop-i-test.false)) c.loop-i.invariant)
