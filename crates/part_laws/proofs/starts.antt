mod Kept
mod Programs
pub mod Start
