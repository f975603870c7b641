pub mod Below
pub mod Ends
pub mod Left
pub mod Removed
