pub mod Rules
pub mod GoalBooks
pub mod Choices
pub mod Queries
pub mod Rankings
