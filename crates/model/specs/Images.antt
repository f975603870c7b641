-- Images: their bytes, the state that each describes, and how it is loaded.
pub mod Format
pub mod Image
pub mod Places
pub mod Fills
pub mod Described
pub mod BootCalls
pub mod Boot
pub mod Listing
