pub mod Loading
pub mod Filling
pub mod Limits
pub mod Propositions
