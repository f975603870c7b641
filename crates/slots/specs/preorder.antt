pub mod Chains
pub mod Laws
pub mod Preorder
pub mod Runs
