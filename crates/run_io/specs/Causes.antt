-- When a source or a sink may say that it failed: by counts that a caller cannot raise.
use Rattle.std.specs.Prelude.{◌≡◌, ℕ, ◌+◌, ◌-◌, ◌^◌, ◌<◌, ◌≤◌, min, Result, Ok, OnErr}

-- A count rose. One that stands at the last value of its type is said to rise too.
abbrev pub Rose : ℕ → ℕ → Type 0
Rose before now = min (before + 1) (2 ^ 64 - 1) ≤ now

-- The count of faults never falls, and an error comes only where it rose.
pub record HasCause {T E : Type 0} (before now : ℕ) (result : Result T E) : Type 0 where
  pub later : before ≤ now
  pub failed : OnErr result (Rose before now)

-- The count of zeros never falls, and nothing is taken of a piece that isn't empty only where it rose.
pub record ZeroHasCause {E : Type 0} (before now size : ℕ) (result : Result ℕ E) : Type 0 where
  pub later : before ≤ now
  pub zero : result ≡ Ok 0 → 0 < size → Rose before now
