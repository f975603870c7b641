mod Signs
mod Spellings
pub mod Laws
