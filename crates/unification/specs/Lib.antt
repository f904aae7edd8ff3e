pub mod Patterns
pub mod Equations
pub mod Transitions
pub mod Solutions
pub mod Laws
