pub mod Answered
pub mod Changes
pub mod Invoking
pub mod Laws
pub mod Mirrors
pub mod Performed
pub mod Running
