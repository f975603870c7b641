pub mod Words
pub mod Lines
pub mod Instructions
pub mod Meaning
pub mod Parsing
pub mod Listed
