mod Accesses
mod Budgets
mod CodeStays
mod EdgesTaken
mod GivenThreads
mod KeptRules
mod NotedForms
mod PlainSteps
mod PointForms
mod ProgramStays
mod SameSlots
pub mod Laws
