use Rattle.std.proofs.Common.{rules, ◌≡◌, inl, inr, None, Some, ap, arith}
use Rattle.command_words.specs.Commands.{LfOptions}
use Rattle.command_words.specs.Given.{options_of}
use Rattle.aesop_session.specs.Calls.{every_call}
use Rattle.aesop_session.proofs.ServedCommands.{no_command, found_prove, found_budget, found_workers}
use Rattle.aesop_session.proofs.ForcedStatuses.{Answered-forced}
use Rattle.aesop_session.proofs.top.run.Goals as goal

pub returns-in-Ok-None-clause-answered : goal.returns-in-Ok-None-clause-answered
returns-in-Ok-None-clause-answered g c =
    let none : c.in-Ok-None.field-0 ≡ None = cc in
    c.say_usage.ensures.answered every_call c.args.words.now _ (no_command options_of c.args.words.now _ c.in-Ok-None.ensures every_call none)

pub returns-in-Ok-None-clause-complete : goal.returns-in-Ok-None-clause-complete
returns-in-Ok-None-clause-complete g c = λ input command tells no_read no_fault no_zero.
    let none : c.in-Ok-None.field-0 ≡ None = cc in
    absurd (no_command options_of c.args.words.now _ c.in-Ok-None.ensures every_call none command)

-- with no workers the caller searches alone

pub prove-requires-clause-budget : goal.prove-requires-clause-budget
prove-requires-clause-budget g c =
    let is : c.in-Ok-Some.field-0 ≡ Some c.in-Ok-Some.opts = cc in
    found_budget options_of c.args.words.now _ c.in-Ok-Some.ensures _ is

pub returns-then-opts-eq0-clause-reads_nothing : goal.returns-then-opts-eq0-clause-reads_nothing
returns-then-opts-eq0-clause-reads_nothing g c = λ none.
    let is : c.in-Ok-Some.field-0 ≡ Some c.in-Ok-Some.opts = cc in
    absurd (none (options_of c.in-Ok-Some.opts, found_prove options_of c.args.words.now _ c.in-Ok-Some.ensures _ is))

pub returns-then-opts-eq0-clause-complete : goal.returns-then-opts-eq0-clause-complete
returns-then-opts-eq0-clause-complete g c = λ input command tells no_read no_fault no_zero.
    let is : c.in-Ok-Some.field-0 ≡ Some c.in-Ok-Some.opts = cc in
    let answered = c.prove.ensures.answered every_call c.args.words.now (found_prove options_of c.args.words.now _ c.in-Ok-Some.ensures _ is) in
    Answered-forced every_call c.args.words.now input _ _ _ _ _ command tells answered (λ e. no_read (c.prove.ensures.read_fault e))
    (λ e. elim (c.prove.ensures.write_fault e) [ inl fault ↦ no_fault fault | inr zero ↦ no_zero zero ])

-- and with some these search

pub prove-requires-2-clause-budget : goal.prove-requires-2-clause-budget
prove-requires-2-clause-budget g c =
    let is : c.in-Ok-Some.field-0 ≡ Some c.in-Ok-Some.opts = cc in
    found_budget options_of c.args.words.now _ c.in-Ok-Some.ensures _ is

pub prove-requires-2-clause-serves : goal.prove-requires-2-clause-serves
prove-requires-2-clause-serves g c = λ book theorem opts same positive formed.
    let is : c.in-Ok-Some.field-0 ≡ Some c.in-Ok-Some.opts = cc in
    let few = found_workers options_of c.args.words.now _ c.in-Ok-Some.ensures _ is in
    let workers = ap (λ (o : LfOptions). o.workers) same in
    ((positive, (omega (arith, workers, c.if-opts-eq0.false), (omega (arith, workers, few), (formed, search rules)))), λ result post. post)

pub returns-clause-reads_nothing : goal.returns-clause-reads_nothing
returns-clause-reads_nothing g c = λ none.
    let is : c.in-Ok-Some.field-0 ≡ Some c.in-Ok-Some.opts = cc in
    absurd (none (options_of c.in-Ok-Some.opts, found_prove options_of c.args.words.now _ c.in-Ok-Some.ensures _ is))

pub returns-clause-complete : goal.returns-clause-complete
returns-clause-complete g c = λ input command tells no_read no_fault no_zero.
    let is : c.in-Ok-Some.field-0 ≡ Some c.in-Ok-Some.opts = cc in
    let answered = c.prove-2.ensures.answered every_call c.args.words.now (found_prove options_of c.args.words.now _ c.in-Ok-Some.ensures _ is) in
    Answered-forced every_call c.args.words.now input _ _ _ _ _ command tells answered (λ e. no_read (c.prove-2.ensures.read_fault e))
    (λ e. elim (c.prove-2.ensures.write_fault e) [ inl fault ↦ no_fault fault | inr zero ↦ no_zero zero ])
