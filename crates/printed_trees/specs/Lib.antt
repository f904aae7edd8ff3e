pub mod PrintedTrees
pub mod Laws
