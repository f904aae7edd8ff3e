mod Prefixes
mod Stops
mod Reached
pub mod Verdicts
