pub mod Assigning
pub mod Numbering
pub mod Laws
