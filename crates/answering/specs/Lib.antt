pub mod Effects
pub mod Known
pub mod Seen
pub mod Answers
