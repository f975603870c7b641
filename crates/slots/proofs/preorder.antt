mod BackTests
mod Changes
mod Counting
mod DepthChanges
mod Descents
pub mod Laws
mod Linked
mod Paths
mod RowDepths
mod Runs
mod Splices
mod Walking
