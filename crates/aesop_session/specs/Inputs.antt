-- What the functions that read say of the bytes and of the source, where a program is served and where none is.
use Rattle.std.specs.Prelude.{ℕ, ◌≤◌, List, length, Option}
use Rattle.run_io.specs.Moves.{TakesAll, TakesAtMost, TakesMoreThan}
use Rattle.aesop_session.specs.declared.refusal.Refusal.{Refusal}
use Rattle.aesop_session.specs.declared.accepting.Unserved.{Unserved}
use Rattle.aesop_session.specs.declared.accepting.Unserved.TheVariants as unserved
use Rattle.aesop_session.specs.declared.input.NoProgram.{NoProgram}
use Rattle.aesop_session.specs.declared.input.NoProgram.TheVariants as none
use Rattle.aesop_session.specs.Refusals.{RefusesText}
use Rattle.basics.specs.Limits.{most_input}

-- Of out of memory nothing is said.
abbrev pub IsUnserved : List ℕ → Unserved → Type 0
IsUnserved bytes (unserved.Refused refusal) = RefusesText bytes refusal.place refusal.kind
IsUnserved bytes unserved.NoMemory = Unit {0}

-- What was read is refused.
abbrev pub TakesRefused : (left later : Option (List ℕ)) → Refusal → Type 0
TakesRefused left later refusal = (input : List ℕ) × TakesAll left later input × (length input ≤ most_input) × RefusesText input refusal.place refusal.kind

-- how much was read where there is no program to serve
abbrev pub IsNoProgram : (left later : Option (List ℕ)) → NoProgram → Type 0
IsNoProgram left later none.Fault = TakesAtMost most_input left later
IsNoProgram left later none.TooLong = TakesMoreThan most_input left later
IsNoProgram left later (none.Refused refusal) = TakesRefused left later refusal
IsNoProgram left later none.NoMemory = TakesAtMost most_input left later
