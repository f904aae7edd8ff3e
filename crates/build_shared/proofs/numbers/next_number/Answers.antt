use Rattle.std.proofs.lemmas.Result.{IfOk-weaker}
use Rattle.build_shared.proofs.GreatestNumbers.{above_both}
use Rattle.build_shared.proofs.numbers.next_number.Goals as goal

pub returns : goal.returns
returns c =
    let goals = c.args.goals.now in
    IfOk-weaker c.next_above-2.result _ _ (λ next is. above_both goals.proofs goals.witnesses c.in_ok-next.next next c.in_ok-next.ensures is) c.next_above-2.ensures
