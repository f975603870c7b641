pub mod Looks
pub mod Held
pub mod Rooted
