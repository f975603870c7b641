pub mod Looks
pub mod Runs
pub mod Stops
