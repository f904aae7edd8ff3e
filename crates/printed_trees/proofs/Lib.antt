pub mod Standing
pub mod Parsing
