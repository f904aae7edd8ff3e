pub mod Rules
pub mod ListsAfter
pub mod NormalForms
pub mod Alternatives
pub mod Taking
pub mod Steps
pub mod Reaching
