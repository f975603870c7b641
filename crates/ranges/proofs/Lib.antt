mod BranchedRegisters
mod BranchedSides
mod Copies
mod Ones
mod ResultsInside
mod WaysTaken
mod Written
mod WrittenRegisters
pub mod Laws
