use Rattle.std.proofs.Common.{rules, get_or, refl}
use Rattle.test_goals.proofs.TheoremTypes.{theorem_is_formed}
use Rattle.test_goals.proofs.openings.type_at.Goals as goal

pub returns : goal.returns
returns c =
    let program = c.args.program.now in
    theorem_is_formed program.sig program.theorems c.as_slice-theorems.result.now c.args.place (get_or c.as_slice-theorems.result.now c.args.place c.index-theorems-place.result) c.index-theorems-place.result
    c.requires c.as_slice-theorems.ensures (search rules) refl
