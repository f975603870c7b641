pub mod Spellings
pub mod Sections
