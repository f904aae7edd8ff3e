pub mod Equations
pub mod Endings
pub mod Shapes
pub mod Mentions
pub mod Standing
pub mod Walks
