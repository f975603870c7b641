mod Kept
mod Marked
mod OneAfterAnother
mod OneMade
mod Places
mod Unnamed
pub mod Laws
