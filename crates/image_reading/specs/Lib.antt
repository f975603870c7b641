pub mod Sections
pub mod Headers
pub mod Sizes
pub mod image_entries
