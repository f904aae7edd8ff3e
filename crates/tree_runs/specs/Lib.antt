pub mod Shapes
pub mod Marks
pub mod Addresses
pub mod States
pub mod Best
pub mod Runs
pub mod Soundness
pub mod Laws
