pub mod OpenedTypes
pub mod Methods
pub mod Candidates
pub mod Applications
pub mod Laws
