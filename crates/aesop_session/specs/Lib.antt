pub mod Statuses
pub mod Calls
pub mod Documents
pub mod Refusals
pub mod Answers
pub mod Inputs
