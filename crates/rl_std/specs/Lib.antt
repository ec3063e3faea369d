pub mod Paths
pub mod Chains
