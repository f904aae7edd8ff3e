pub mod Nodes
pub mod Branches
pub mod Agreement
pub mod Steps
pub mod Laws
