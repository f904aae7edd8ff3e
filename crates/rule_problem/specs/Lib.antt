pub mod Codes
pub mod Problems
pub mod Laws
