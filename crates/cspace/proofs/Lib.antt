mod Places
mod Steps
pub mod Laws
