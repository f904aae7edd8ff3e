pub mod Reaching
pub mod Progress
pub mod Seen
