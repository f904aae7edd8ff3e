-- How the counts of an end go up.
use Rattle.std.specs.Prelude.{ℕ, ◌+◌, ◌-◌, ◌^◌, min, ◌==◌, nat_lt, ◌&&◌, if◌then◌else◌, Result, Ok, Err}

-- A count after one more. It stops at the last value of its type.
abbrev pub counted : ℕ → ℕ
counted before = min (before + 1) (2 ^ 64 - 1)

-- The count of zeros after a sink took so many bytes of a piece of this size.
abbrev pub zeros_after : ℕ → ℕ → ℕ → ℕ
zeros_after before size count = if (count == 0) && nat_lt 0 size then counted before else before

-- The count of faults after a call with this result.
abbrev pub faults_after : {T E : Type 0} → ℕ → Result T E → ℕ
faults_after before (Ok x) = before
faults_after before (Err e) = counted before

-- The count of zeros after a sink answered this to a piece of this size.
abbrev pub zeros_after_write : {E : Type 0} → ℕ → ℕ → Result ℕ E → ℕ
zeros_after_write before size (Ok count) = zeros_after before size count
zeros_after_write before size (Err e) = before
