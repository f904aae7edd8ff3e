use Rattle.std.proofs.Common.{◌≡◌, take}
use Rattle.lf_terms.specs.Terms.{spine_of}
use Rattle.meta_goals.proofs.changes.copies.Given as goal

abbrev pub invariant-loop-i : goal.invariant-loop-i
invariant-loop-i l = spine_of l.copies.items ≡ spine_of (take l.i l.items)
