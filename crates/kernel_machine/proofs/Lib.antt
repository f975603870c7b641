pub mod Fresh
pub mod HeldSlots
pub mod Roots
pub mod Sizes
pub mod Untypeds
