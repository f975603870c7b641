pub mod Ground
pub mod Laws
pub mod Moving
pub mod Resting
pub mod Steps
