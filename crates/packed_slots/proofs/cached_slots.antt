mod Kept
mod LeafWalks
mod LeavesKept
mod Mapped
pub mod Laws
