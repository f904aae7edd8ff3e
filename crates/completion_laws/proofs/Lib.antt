pub mod Bodies
pub mod LeftGoals
pub mod Scopes
pub mod Unified
pub mod Itself
pub mod KeptContext
pub mod Becoming
pub mod Besides
