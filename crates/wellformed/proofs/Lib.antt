mod Acceptance
mod Covered
mod Listed
mod Named
mod Phases
mod Placing
mod Reached
mod RulesLeft
mod Stands
mod ThreadSteps
pub mod Laws
