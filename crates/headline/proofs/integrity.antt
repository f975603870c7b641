mod Given
mod Mapped
pub mod MappedSteps
mod Runs
mod SameKinds
mod Steps
mod Stores
mod Unmoved
