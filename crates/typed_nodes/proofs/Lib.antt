pub mod Inside
pub mod Clusters
pub mod Nodes
