pub mod Laws
pub mod Mapped
pub mod Runs
