mod Wrongs
mod Starts
mod Cuts
pub mod Verdicts
