pub mod LineInputs
pub mod Sinks
