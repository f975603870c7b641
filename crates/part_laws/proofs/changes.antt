pub mod Agreeing
pub mod Members
pub mod Messages
pub mod Signals
