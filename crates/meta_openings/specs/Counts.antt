-- Numbers of variables among the kept entries.
use Rattle.std.specs.Prelude.{ℕ, zero, suc, ◌+◌, ◌-◌, if◌then◌else◌, List, slice_index}
use Rattle.lf_definitions.specs.Syntax.{bound, constant, metavariable}
use Rattle.lf_definitions.specs.Renaming.{Renaming}
use Rattle.opening_laws.specs.Openings.{is_kept}

-- how many of the places before one are kept
abbrev pub kept_before : List ℕ → ℕ → ℕ
kept_before kept zero = zero
kept_before kept (suc place) = if is_kept kept place then suc (kept_before kept place) else kept_before kept place

-- A variable among so many first entries has as many kept entries after its own, by how many are kept before each place.
abbrev pub by_counts : List ℕ → ℕ → Renaming
by_counts before count (bound n) = bound ((n - count) + (slice_index before count - slice_index before (count - n)))
by_counts before count (constant c) = constant c
by_counts before count (metavariable g) = metavariable g
