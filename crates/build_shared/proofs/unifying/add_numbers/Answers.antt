use Rattle.std.proofs.Common.{[], ◌∷◌, ◌++◌, sym, ap, ◌∙◌}
use Rattle.lf_terms.specs.declared.goal.Goal.{Goal}
use Rattle.build_shared.proofs.FrozenNumbers.{numbers_more, numbers_all}
use Rattle.std.proofs.lemmas.List.{append-nil}
use Rattle.build_shared.proofs.unifying.add_numbers.Goals as goal

pub loop-i-init : goal.loop-i-init
loop-i-init c = sym (append-nil c.args.numbers.now)

pub loop-i-preserved : goal.loop-i-preserved
loop-i-preserved c =
    numbers_more c.as_slice-items.result.now c.loop-i.i c.index-items-i.result c.args.numbers.now c.loop-i.numbers c.push.new.self c.loop-i-test.true c.index-items-i.is c.loop-i.invariant
    (c.in_ok-push.ensures.ok ∙ ap (λ (z : Goal). c.loop-i.numbers ++ z.id ∷ []) (sym c.index-items-i.is))

pub returns : goal.returns
returns c = numbers_all c.as_slice-items.result.now c.loop-i.i c.args.goals.now c.args.numbers.now c.loop-i.numbers c.loop-i-test.false c.as_slice-items.ensures c.loop-i.invariant
