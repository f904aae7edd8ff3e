-- A sink with a fixed room, as contracts see it.
use Rattle.std.specs.Prelude.{ℕ, List}

-- The bytes that it holds, for how many it has room in all, and how often it took nothing of a piece that isn't empty.
pub record SureRoom : Type 0 where
  pub held : List ℕ
  pub room : ℕ
  pub zeros : ℕ
