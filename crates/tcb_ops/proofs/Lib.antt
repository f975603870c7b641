pub mod Buffered
pub mod Checks
pub mod Configured
pub mod Passed
pub mod Putting
pub mod ThreadsNear
