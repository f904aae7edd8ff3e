pub mod Entries
mod Climbs
mod Fallen
mod ChildFlags
mod Spreading
mod Deciding
mod Knowing
pub mod Settling
