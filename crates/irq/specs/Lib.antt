pub mod Handlers
pub mod Signals
