pub mod BesideRegisters
pub mod KeptPages
pub mod Fills
pub mod Propositions
pub mod Reaching
pub mod Runs
pub mod Views
