pub mod Bits
pub mod Handlers
pub mod Indexing
pub mod NamedPages
pub mod Sharing
pub mod Packing
pub mod Words
pub mod cached_slots
