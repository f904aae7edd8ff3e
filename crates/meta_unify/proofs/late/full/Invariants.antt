use Rattle.std.proofs.Common.{take}
use Rattle.lf_terms.specs.Terms.{term_of}
use Rattle.meta_unify.specs.Standing.{MentionsNoneBound}
use Rattle.meta_unify.proofs.Filling.{IsFilling}
use Rattle.meta_unify.proofs.late.full.Given as goal

abbrev pub invariant-loop : goal.invariant-loop
invariant-loop l = IsFilling l.late (term_of l.term) (term_of l.result) × MentionsNoneBound (take l.counter l.late) (term_of l.result)
