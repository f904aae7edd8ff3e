mod SameTypes
mod Entries
pub mod Places
pub mod Arguments
pub mod Terms
pub mod Types
pub mod Verdicts
