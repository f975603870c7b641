pub mod Given
pub mod Reaching
pub mod Propositions
