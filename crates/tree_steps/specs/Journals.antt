-- What a contract sees of a journal.
use Rattle.std.specs.Prelude.{ℕ, ◌+◌, ◌≤◌, List, map, All, length, take, drop}
use Rattle.tree_runs.specs.States.{TreeEvent, claim, commit, release}
use Rattle.tree_steps.specs.declared.journal.Row.{Row}
use Rattle.tree_steps.specs.declared.journal.Row.TheVariants.{Claim, Commit, Release}
use Rattle.tree_steps.specs.declared.journal.Event.{Event}
use Rattle.tree_steps.specs.declared.journal.Event.TheVariants.{Claim as Claimed, Commit as Committed, Release as Released}

-- the events, and how many more fit with no memory taken, and so many more counts
pub record JournalRoom : Type 0 where
  pub events : List TreeEvent
  pub spare : ℕ
  pub spare_counts : ℕ

-- the event of a row, whose counts stand in a list
abbrev pub event_of : List ℕ → Row → TreeEvent
event_of counts (Claim seat node) = claim seat node
event_of counts (Commit seat node start width) = commit seat node (take width (drop start counts))
event_of counts (Release seat node) = release seat node

-- the counts of a row are all in the list
abbrev pub IsWithin : List ℕ → Row → Type 0
IsWithin counts (Claim seat node) = Unit {0}
IsWithin counts (Commit seat node start width) = start + width ≤ length counts
IsWithin counts (Release seat node) = Unit {0}

abbrev pub events_of : List Row → List ℕ → List TreeEvent
events_of rows counts = map (event_of counts) rows

pub record HoldsRows (rows : List Row) (counts : List ℕ) (rows_capacity counts_capacity spare spare_counts : ℕ) : Type 0 where
  pub within : All (IsWithin counts) rows
  pub rows_room : length rows + spare ≤ rows_capacity
  pub counts_room : length counts + spare_counts ≤ counts_capacity
  pub numbers : length counts + spare_counts ≤ 2147483648

-- an event as it is answered
abbrev pub event_shown : Event → TreeEvent
event_shown (Claimed seat node) = claim seat node
event_shown (Committed seat node counts) = commit seat node counts.now
event_shown (Released seat node) = release seat node
