use Rattle.std.proofs.Common.{◌≡◌, subst}
use Rattle.aesop_session.specs.declared.input.NoProgram.TheVariants as none
use Rattle.command_words.specs.Given.{options_of}
use Rattle.aesop_session.specs.Inputs.{IsNoProgram}
use Rattle.aesop_session.proofs.top.prove.Goals as goal

pub returns-in-Ok-clause-answered : goal.returns-in-Ok-clause-answered
returns-in-Ok-clause-answered g c = λ call words is. c.answer.ensures.answered call words _ _ is c.in-Ok.ensures.takes

pub returns-in-Err-TooLong-clause-answered : goal.returns-in-Err-TooLong-clause-answered
returns-in-Err-TooLong-clause-answered g c =
    let is : c.in-Err-TooLong.field-0 ≡ none.TooLong = cc in
    λ call words proves. c.say_too_long.ensures.answered call words _ _ (options_of c.args.opts.now, proves)
    (subst (IsNoProgram (g.S.Source.left c.args.source.now) (g.S.Source.left c.read_program.new.source)) is c.in-Err-TooLong.ensures.why)

pub returns-in-Err-Refused-clause-answered : goal.returns-in-Err-Refused-clause-answered
returns-in-Err-Refused-clause-answered g c =
    let is : c.in-Err-Refused.field-0 ≡ none.Refused c.in-Err-Refused.refusal = cc in
    λ call words proves. c.say_refused.ensures.answered call words _ _ (options_of c.args.opts.now, proves)
    (subst (IsNoProgram (g.S.Source.left c.args.source.now) (g.S.Source.left c.read_program.new.source)) is c.in-Err-Refused.ensures.why)
