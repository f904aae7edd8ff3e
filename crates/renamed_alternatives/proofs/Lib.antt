pub mod NewNumbers
pub mod ListsAfter
pub mod NormalForms
pub mod Alternatives
