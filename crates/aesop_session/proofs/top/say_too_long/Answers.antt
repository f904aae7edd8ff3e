use Rattle.std.proofs.Common.{refl}
use Rattle.aesop_session.specs.declared.status.Status.TheVariants.{TooLong}
use Rattle.aesop_session.specs.Answers.{too_long_line}
use Rattle.aesop_session.proofs.top.say_too_long.Goals as goal

pub returns-in-Err-clause-answered : goal.returns-in-Err-clause-answered
returns-in-Err-clause-answered g c = λ call words left later command takes. (TooLong, too_long_line, (command, takes, refl), c.in-Err.ensures.err)
