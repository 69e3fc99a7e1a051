pub mod Nodes
pub mod Paths
