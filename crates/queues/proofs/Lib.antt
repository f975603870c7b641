mod Beginnings
mod Changing
mod EndingQueues
mod Frames
mod LeavingQueues
pub mod Laws
mod LinkSteps
mod Marks
mod MemoryWrites
mod Nobody
mod ReadySteps
mod Standings
