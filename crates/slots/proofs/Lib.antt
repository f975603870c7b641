mod Families
mod Handled
pub mod Listing
pub mod Tables
pub mod Laws
