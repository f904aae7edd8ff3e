-- The status that an input must have where nothing fails.
use Rattle.std.proofs.Common.{◌≡◌, ℕ, ◌<◌, ◌≤◌, List, ◌++◌, length, refl, sym, subst, ap, ◌∙◌, arith, Some, None, Option, append-nil, length-append}
use Rattle.run_io.specs.Moves.{TakesAll, TakesMoreThan}
use Rattle.file_elab.specs.Programs.{LfProgram}
use Rattle.aesop_session.specs.declared.refusal.RefusalKind.{RefusalKind}
use Rattle.aesop_session.specs.declared.status.Status.{Status}
use Rattle.aesop_session.specs.declared.status.Status.TheVariants.{AllProved, SomeStuck, SomeSpent, FileRefused, Usage, TooLong, ReadFault, WriteFault, NoMemory, AnswersRefused}
use Rattle.command_words.specs.Commands.{LfOptions}
use Rattle.aesop_session.specs.Calls.{LfCall, IsServedCommand}
use Rattle.aesop_session.specs.Refusals.{IsAccepted, RefusesText}
use Rattle.basics.specs.Limits.{most_input}
use Rattle.aesop_session.specs.Answers.{AnswersFile, ProvesFile, RefusesFile, Answered, Served, Refused, Overlong, IsStatusFor}
use Rattle.aesop_session.proofs.Exclusions.{IsAccepted-not_refused}

-- a source that gave all that it had gave this
all_taken : (input taken : List ℕ) (later : Option (List ℕ)) → TakesAll (Some input) later taken → taken ≡ input
all_taken input taken None h = absurd h.0
all_taken input taken (Some rest) h = sym (h.0 ∙ ap (λ (t : List ℕ). taken ++ t) h.1 ∙ append-nil taken)

more_taken : (input : List ℕ) (later : Option (List ℕ)) → TakesMoreThan most_input (Some input) later → most_input < length input
more_taken input None h = absurd h.2
more_taken input (Some rest) h = omega (arith, h.1, ap length h.2, length-append h.0 rest)

-- What the answer to an input says of it.
record AcceptedInput (input : List ℕ) : Type 0 where
  program : LfProgram
  accepted : IsAccepted input program
  fits : length input ≤ most_input

answered_input : (options : LfOptions) (input : List ℕ) (later : Option (List ℕ)) (status : Status) (text : List ℕ) → AnswersFile options (Some input) later status text → AcceptedInput input
answered_input options input later status text a =
    let same = all_taken input a.taken.0 later a.taken.1 in
    record {
      program = a.program;
      accepted = subst (λ bytes. IsAccepted bytes a.program) same a.taken.3;
      fits = subst (λ bytes. length bytes ≤ most_input) same a.taken.2;
    }

proved_input : (call : LfCall) (words : List (List ℕ)) (input : List ℕ) (later : Option (List ℕ)) (status : Status) (text : List ℕ) → ProvesFile call words (Some input) later status text → AcceptedInput input
proved_input call words input later status text a = answered_input a.0 input later status text a.2

record RefusedInput (input : List ℕ) : Type 0 where
  place : ℕ
  kind : RefusalKind
  refused : RefusesText input place kind
  fits : length input ≤ most_input

refused_input : (input : List ℕ) (later : Option (List ℕ)) (text : List ℕ) → RefusesFile (Some input) later text → RefusedInput input
refused_input input later text r =
    let same = all_taken input r.0 later r.1 in
    record {
      place = r.3.place;
      kind = r.3.kind;
      refused = subst (λ bytes. RefusesText bytes r.3.place r.3.kind) same r.3.refused;
      fits = subst (λ bytes. length bytes ≤ most_input) same r.2;
    }

-- what is refused has no answer
not_both : (input : List ℕ) → AcceptedInput input → RefusedInput input → ⊥
not_both input a r = IsAccepted-not_refused r.kind input a.program r.place a.accepted r.refused

too_long : (input : List ℕ) → most_input < length input → length input ≤ most_input → ⊥
too_long input more fits = omega (arith, more, fits)

-- Where nothing fails, the words are a command that the call serves and the source had this input.
record Faultless (call : LfCall) (words : List (List ℕ)) (input : List ℕ) (later held after : Option (List ℕ)) (status : Status) : Type 0 where
  command : IsServedCommand call words
  answered : Answered call words (Some input) later held after status
  no_read_fault : status ≡ ReadFault → ⊥
  no_write_fault : status ≡ WriteFault → ⊥

module _ (call : LfCall) (words : List (List ℕ)) (input : List ℕ) (later held after : Option (List ℕ)) where
  served_status : (status : Status) → Faultless call words input later held after status → AcceptedInput input → Served status
  served_status AllProved f a = tt
  served_status SomeStuck f a = tt
  served_status SomeSpent f a = tt
  served_status FileRefused f a = not_both input a (refused_input input later f.answered.0 f.answered.1.1)
  served_status Usage f a = f.answered.1.0 f.command
  served_status TooLong f a = too_long input (more_taken input later f.answered.1.1) a.fits
  served_status ReadFault f a = f.no_read_fault refl
  served_status WriteFault f a = f.no_write_fault refl
  served_status NoMemory f a = tt
  served_status AnswersRefused f a = f.answered.1

  refused_status : (status : Status) → Faultless call words input later held after status → RefusedInput input → Refused status
  refused_status AllProved f r = not_both input (proved_input call words input later AllProved f.answered.0 f.answered.1) r
  refused_status SomeStuck f r = not_both input (proved_input call words input later SomeStuck f.answered.0 f.answered.1) r
  refused_status SomeSpent f r = not_both input (proved_input call words input later SomeSpent f.answered.0 f.answered.1) r
  refused_status FileRefused f r = tt
  refused_status Usage f r = f.answered.1.0 f.command
  refused_status TooLong f r = too_long input (more_taken input later f.answered.1.1) r.fits
  refused_status ReadFault f r = f.no_read_fault refl
  refused_status WriteFault f r = f.no_write_fault refl
  refused_status NoMemory f r = tt
  refused_status AnswersRefused f r = f.answered.1

  overlong_status : (status : Status) → Faultless call words input later held after status → most_input < length input → Overlong status
  overlong_status AllProved f more = too_long input more (proved_input call words input later AllProved f.answered.0 f.answered.1).fits
  overlong_status SomeStuck f more = too_long input more (proved_input call words input later SomeStuck f.answered.0 f.answered.1).fits
  overlong_status SomeSpent f more = too_long input more (proved_input call words input later SomeSpent f.answered.0 f.answered.1).fits
  overlong_status FileRefused f more = too_long input more (refused_input input later f.answered.0 f.answered.1.1).fits
  overlong_status Usage f more = f.answered.1.0 f.command
  overlong_status TooLong f more = tt
  overlong_status ReadFault f more = f.no_read_fault refl
  overlong_status WriteFault f more = f.no_write_fault refl
  overlong_status NoMemory f more = tt
  overlong_status AnswersRefused f more = f.answered.1

  -- where nothing fails the input has its status
  pub Answered-forced : (status : Status) (left : Option (List ℕ)) → IsServedCommand call words → left ≡ Some input → Answered call words left later held after status →
      (status ≡ ReadFault → ⊥) → (status ≡ WriteFault → ⊥) → IsStatusFor input status
  Answered-forced status left command tells answered no_read no_write =
      let f : Faultless call words input later held after status =
      record { command = command; answered = subst (λ l. Answered call words l later held after status) tells answered; no_read_fault = no_read; no_write_fault = no_write } in
      record {
        accepted = λ program fits accepted. served_status status f (record { program = program; accepted = accepted; fits = fits });
        refused = λ place kind fits refused. refused_status status f (record { place = place; kind = kind; refused = refused; fits = fits });
        overlong = overlong_status status f;
      }
