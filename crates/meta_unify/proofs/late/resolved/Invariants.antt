use Rattle.meta_unify.proofs.Answering.{IsAnswered, HasContexts}
use Rattle.meta_unify.proofs.late.resolved.Given as goal

abbrev pub invariant-loop-i : goal.invariant-loop-i
invariant-loop-i l = IsAnswered l.late l.answer l.i × HasContexts l.late l.answer
