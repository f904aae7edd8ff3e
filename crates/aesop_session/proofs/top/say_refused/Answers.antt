use Rattle.std.proofs.Common.{◌∙◌, inl, inr}
use Rattle.std.proofs.KnownBytes.{Keeps-refl}
use Rattle.aesop_session.specs.declared.status.Status.TheVariants.{FileRefused}
use Rattle.aesop_session.proofs.Answering.{TakesRefused-at_most, RefusesFile-line}
use Rattle.aesop_session.proofs.top.say_refused.Goals as goal

pub returns-in-Err-clause-answered : goal.returns-in-Err-clause-answered
returns-in-Err-clause-answered g c = λ call words left later command takes. inr (inl (command, TakesRefused-at_most left later _ takes, Keeps-refl _))

pub returns-in-Ok-write_text-clause-answered : goal.returns-in-Ok-write_text-clause-answered
returns-in-Ok-write_text-clause-answered g c = λ call words left later command takes.
    (_, (command, RefusesFile-line left later _ _ takes (c.as_bytes.ensures.value ∙ c.in-Ok.ensures)), c.in-Ok-write_text.ensures.ok)

pub returns-clause-answered : goal.returns-clause-answered
returns-clause-answered g c = λ call words left later command takes.
    (FileRefused, _, (command, RefusesFile-line left later _ _ takes (c.as_bytes.ensures.value ∙ c.in-Ok.ensures)), c.in-Err-write_text.ensures.err)
