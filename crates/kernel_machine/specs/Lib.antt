pub mod Setups
pub mod Stores
pub mod perform_calls
