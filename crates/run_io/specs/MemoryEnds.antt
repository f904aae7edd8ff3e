-- The ends in memory that fail where they are told to, as contracts see them.
use Rattle.std.specs.Prelude.{ℕ, List, ◌++◌, Result, Ok, Err, take, drop, length}
use Rattle.run_io.specs.Counts.{counted, zeros_after}

-- The bytes that are left, the most that one call gives, the numbers of the calls that fail, and how many calls and faults there were.
pub record MemoryBytes : Type 0 where
  pub left : List ℕ
  pub piece : ℕ
  pub failing : List ℕ
  pub calls : ℕ
  pub faults : ℕ

-- The bytes that are held, the room for them in all, the most that one call takes, the numbers of the calls that fail,
-- and how many calls, faults and zeros there were.
pub record MemoryRoom : Type 0 where
  pub held : List ℕ
  pub room : ℕ
  pub piece : ℕ
  pub failing : List ℕ
  pub calls : ℕ
  pub faults : ℕ
  pub zeros : ℕ

-- The source after a call.
abbrev pub after_read : {E : Type 0} → MemoryBytes → Result ℕ E → MemoryBytes
after_read s (Ok count) = record s { left = drop count s.left; calls = counted s.calls }
after_read s (Err e) = record s { calls = counted s.calls; faults = counted s.faults }

-- The sink after a call with this piece.
abbrev pub after_write : {E : Type 0} → MemoryRoom → List ℕ → Result ℕ E → MemoryRoom
after_write s bytes (Ok count) = record s { held = s.held ++ take count bytes; calls = counted s.calls; zeros = zeros_after s.zeros (length bytes) count }
after_write s bytes (Err e) = record s { calls = counted s.calls; faults = counted s.faults }
