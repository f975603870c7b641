pub mod WithinRanges
mod PageRuns
pub mod EntryTests
pub mod LeftStates
