pub mod Lines
pub mod SameTexts
