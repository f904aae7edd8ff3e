pub mod Mentions
pub mod Marks
