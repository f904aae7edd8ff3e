use Rattle.std.proofs.Common.{◌≤◌, length, arith}
use Rattle.build_forward.proofs.PremisePlaces.{all_pushed, equations_left, no_equation}
use Rattle.build_forward.proofs.equations.equations_between.Goals as goal

pub returns : goal.returns
returns c =
    let premises = c.args.premises.now in
    let chosen = c.args.chosen.now in
    let past : length chosen ≤ c.loop-i.i = omega (arith, c.loop-i-test.false) in
    all_pushed c.loop-i.equations (equations_left premises chosen c.loop-i.i) _ (no_equation premises chosen c.loop-i.i past) c.loop-i.invariant
