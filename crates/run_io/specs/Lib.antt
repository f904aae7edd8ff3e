pub mod Causes
pub mod Counts
pub mod MemoryEnds
pub mod Moves
pub mod SureRoom
