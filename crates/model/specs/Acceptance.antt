-- Acceptance: the rules that an image keeps, and what stays true of its threads.
pub mod Rules
pub mod WellFormed
pub mod ThreadRules
pub mod Ranges
pub mod RangeRules
pub mod Edges
pub mod Measures
pub mod NotedStates
pub mod NotedKernel
pub mod Promises
pub mod CallRules
pub mod PointStates
pub mod PointRules
pub mod Accepted
pub mod ThreadInvariants
pub mod Authority
pub mod Devices
