-- What workers are given to do.
use Rattle.std.specs.Prelude.{◌<◌, ℕ}
use Rattle.tree_shared.specs.declared.desk.Task.{Task}
use Rattle.tree_shared.specs.declared.desk.Task.TheVariants.{Expand, Ask, End}

-- what is to be expanded is an own node, and the seat is below the number of workers
abbrev pub IsTask : {N : Type 0} → (N → Type 0) → ℕ → Task N → Type 0
IsTask own workers (Expand taken turn) = own taken.content × (taken.seat < workers)
IsTask own workers (Ask seat) = seat < workers
IsTask own workers End = Unit {0}
