mod Decisions
mod Rules
mod Lists
mod Formed
mod Declarations
pub mod Verdicts
