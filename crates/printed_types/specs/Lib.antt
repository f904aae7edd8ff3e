pub mod Limits
pub mod Depths
pub mod Laws
