use Rattle.std.proofs.Common.{refl}
use Rattle.std.proofs.KnownBytes.{Keeps-refl}
use Rattle.aesop_session.specs.declared.status.Status.TheVariants.{Usage}
use Rattle.aesop_session.specs.Answers.{usage_line}
use Rattle.aesop_session.proofs.top.say_usage.Goals as goal

pub returns-in-Err-clause-answered : goal.returns-in-Err-clause-answered
returns-in-Err-clause-answered g c = λ call words left other. (Usage, usage_line, (other, Keeps-refl left, refl), c.in-Err.ensures.err)
