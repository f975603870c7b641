pub mod Dispatch
pub mod Invocations
pub mod Read
pub mod Steps
pub mod Whole
