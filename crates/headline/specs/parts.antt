pub mod Agreeing
pub mod Given
pub mod Leaving
pub mod Laws
pub mod Parts
pub mod Views
