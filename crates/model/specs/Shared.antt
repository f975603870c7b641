-- Words that all layers share: bytes, numbers and names of what is printed.
pub mod Bytes
pub mod Lists
pub mod Labels
pub mod Refusals
pub mod Trace
