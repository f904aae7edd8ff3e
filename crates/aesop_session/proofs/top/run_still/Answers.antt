use Rattle.std.proofs.Common.{◌≡◌, inl, inr, None, Some}
use Rattle.command_words.specs.Given.{options_of}
use Rattle.aesop_session.specs.Calls.{still_call}
use Rattle.aesop_session.proofs.ServedCommands.{no_command, no_still_command, found_prove, found_budget}
use Rattle.aesop_session.proofs.ForcedStatuses.{Answered-forced}
use Rattle.aesop_session.proofs.top.run_still.Goals as goal

pub returns-in-Ok-None-clause-answered : goal.returns-in-Ok-None-clause-answered
returns-in-Ok-None-clause-answered g c =
    let none : c.in-Ok-None.field-0 ≡ None = cc in
    c.say_usage.ensures.answered still_call c.args.words.now _ (no_command options_of c.args.words.now _ c.in-Ok-None.ensures still_call none)

pub returns-in-Ok-None-clause-complete : goal.returns-in-Ok-None-clause-complete
returns-in-Ok-None-clause-complete g c = λ input command tells no_read no_fault no_zero.
    let none : c.in-Ok-None.field-0 ≡ None = cc in
    absurd (no_command options_of c.args.words.now _ c.in-Ok-None.ensures still_call none command)

pub returns-then-opts-ne0-clause-answered : goal.returns-then-opts-ne0-clause-answered
returns-then-opts-ne0-clause-answered g c =
    let is : c.in-Ok-Some.field-0 ≡ Some c.in-Ok-Some.opts = cc in
    c.say_usage-then-opts-ne0.ensures.answered still_call c.args.words.now _ (no_still_command options_of c.args.words.now _ c.in-Ok-Some.ensures _ is (λ none. c.if-opts-ne0.true none))

pub returns-then-opts-ne0-clause-complete : goal.returns-then-opts-ne0-clause-complete
returns-then-opts-ne0-clause-complete g c = λ input command tells no_read no_fault no_zero.
    let is : c.in-Ok-Some.field-0 ≡ Some c.in-Ok-Some.opts = cc in
    absurd (no_still_command options_of c.args.words.now _ c.in-Ok-Some.ensures _ is (λ none. c.if-opts-ne0.true none) command)

pub prove-requires-clause-budget : goal.prove-requires-clause-budget
prove-requires-clause-budget g c =
    let is : c.in-Ok-Some.field-0 ≡ Some c.in-Ok-Some.opts = cc in
    found_budget options_of c.args.words.now _ c.in-Ok-Some.ensures _ is

pub returns-clause-reads_nothing : goal.returns-clause-reads_nothing
returns-clause-reads_nothing g c = λ none.
    let is : c.in-Ok-Some.field-0 ≡ Some c.in-Ok-Some.opts = cc in
    absurd (none (options_of c.in-Ok-Some.opts, (found_prove options_of c.args.words.now _ c.in-Ok-Some.ensures _ is, c.if-opts-ne0.false)))

pub returns-clause-complete : goal.returns-clause-complete
returns-clause-complete g c = λ input command tells no_read no_fault no_zero.
    let is : c.in-Ok-Some.field-0 ≡ Some c.in-Ok-Some.opts = cc in
    let answered = c.prove.ensures.answered still_call c.args.words.now (found_prove options_of c.args.words.now _ c.in-Ok-Some.ensures _ is, c.if-opts-ne0.false) in
    Answered-forced still_call c.args.words.now input _ _ _ _ _ command tells answered (λ e. no_read (c.prove.ensures.read_fault e))
    (λ e. elim (c.prove.ensures.write_fault e) [ inl fault ↦ no_fault fault | inr zero ↦ no_zero zero ])
