-- The seats of events.
use Rattle.std.specs.Prelude.{◌<◌, ℕ, List, All}
use Rattle.tree_runs.specs.States.{TreeEvent, claim, commit, release}

abbrev pub seat_of : TreeEvent → ℕ
seat_of (claim seat node) = seat
seat_of (commit seat node counts) = seat
seat_of (release seat node) = seat

-- all seats are below a number
abbrev pub AreSeatsBelow : ℕ → List TreeEvent → Type 0
AreSeatsBelow workers events = All (λ event. seat_of event < workers) events
