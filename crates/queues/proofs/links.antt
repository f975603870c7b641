mod Chains
mod Joining
mod Keeping
pub mod Laws
mod Listing
mod Leaving
