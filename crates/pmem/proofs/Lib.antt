pub mod Laws
mod WordLists
