mod Moves
mod Splices
mod Removed
pub mod Laws
