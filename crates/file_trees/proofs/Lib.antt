pub mod TreeLists
pub mod Heads
