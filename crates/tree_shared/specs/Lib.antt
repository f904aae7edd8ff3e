pub mod Stills
pub mod Seats
pub mod Names
pub mod Moves
pub mod Tasks
