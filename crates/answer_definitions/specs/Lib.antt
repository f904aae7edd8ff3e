pub mod Blocks
pub mod Chosen
pub mod Right
pub mod Settled
pub mod Theorems
