use Rattle.std.proofs.Common.{take}
use Rattle.lf_terms.specs.Extents.{Covers, InSpine}
use Rattle.lf_terms.specs.Terms.{spine_of}
use Rattle.lf_terms.proofs.term.extent_of.Given as goal

abbrev pub invariant-loop-term : goal.invariant-loop-term
invariant-loop-term l = Covers l.extent (InSpine (spine_of (take l.term-index l.terms)))
