use Rattle.std.proofs.Common.{◌≤◌, length, map, ap, ◌∙◌, arith}
use Rattle.applications.specs.Candidates.{paired}
use Rattle.build_shared.specs.Seen.{seen_hypothesis}
use Rattle.build_forward.proofs.PremisePlaces.{all_pushed, pairs_left, none_fixed}
use Rattle.build_forward.proofs.onward.fixed_by.Goals as goal

pub returns : goal.returns
returns c =
    let items = c.as_slice-items.result.now in
    let chosen = c.args.chosen.now in
    let past : length chosen ≤ c.loop-i.i = omega (arith, c.loop-i-test.false) in
    all_pushed c.loop-i.fixed (pairs_left items chosen c.loop-i.i) _ (none_fixed items chosen c.loop-i.i past) c.loop-i.invariant
    ∙ ap (λ ks. paired ks (map seen_hypothesis chosen)) c.as_slice-items.ensures
