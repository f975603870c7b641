pub mod Hanging
pub mod Laws
pub mod Standing
pub mod Untouched
pub mod Waiting
