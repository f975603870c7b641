pub mod Points
pub mod Runs
