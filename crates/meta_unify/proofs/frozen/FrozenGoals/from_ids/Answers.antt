use Rattle.std.proofs.Common.{◌∙◌, ap, take_all}
use Rattle.unification.specs.Patterns.{has_number}
use Rattle.meta_unify.proofs.FrozenNumbers.{number_more}
use Rattle.meta_unify.proofs.frozen.FrozenGoals.from_ids.Goals as goal

pub loop-i-init : goal.loop-i-init
loop-i-init c = λ g. ap (λ ns. has_number ns g) c.new-numbers.ensures.empty

pub loop-i-preserved : goal.loop-i-preserved
loop-i-preserved c =
    number_more c.as_slice-items.result.now c.loop-i.numbers.keys c.insert_full.new.self.keys c.loop-i.i c.loop-i-test.true c.in_ok-insert_full.ensures.keys c.loop-i.invariant

pub returns : goal.returns
returns c = λ g. c.loop-i.invariant g ∙ ap (λ ns. has_number ns g) (take_all c.loop-i.i c.as_slice-items.result.now c.loop-i-test.false ∙ c.as_slice-items.ensures)
