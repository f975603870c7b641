mod Agreeing
mod Bridge
mod Decided
mod Given
mod GivenRuns
mod Kept
mod KeptBytes
mod Left
mod Members
mod Messages
mod SameEntries
mod Signals
mod Views
pub mod Laws
