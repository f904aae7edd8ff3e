use Rattle.std.proofs.Common.{◌≡◌, take}
use Rattle.lf_definitions.specs.Syntax.{joined}
use Rattle.lf_terms.specs.Terms.{spine_of}
use Rattle.meta_openings.proofs.lists.add_terms.Given as goal

abbrev pub invariant-loop-i : goal.invariant-loop-i
invariant-loop-i l = spine_of l.terms.items ≡ joined (spine_of l.initial.terms.items) (spine_of (take l.i l.more))
