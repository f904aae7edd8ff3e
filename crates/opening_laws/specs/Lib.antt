pub mod Openings
pub mod Conditions
pub mod Laws
