mod Rows
pub mod Claims
pub mod BestEntries
pub mod Releases
pub mod Commits
pub mod Regular
mod Starts
mod SoundRuns
pub mod Steps
mod Firsts
mod Holdings
mod Idling
mod Committed
mod ChildEntries
mod Growing
mod Choosing
mod HeldSeats
