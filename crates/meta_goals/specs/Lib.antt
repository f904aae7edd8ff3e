pub mod Bindings
pub mod Entries
pub mod Instantiates
pub mod Applies
pub mod GoalsOf
pub mod Laws
