pub mod Measures
pub mod Steps
pub mod Sums
pub mod Values
pub mod Variables
