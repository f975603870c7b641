mod Fields
mod WordLists
pub mod Laws
