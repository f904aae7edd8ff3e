pub mod Theorems
pub mod Replays
