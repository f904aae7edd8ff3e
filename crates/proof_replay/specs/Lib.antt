pub mod Seen
pub mod Leading
pub mod Runs
pub mod Turns
pub mod Putting
pub mod Naming
