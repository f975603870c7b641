pub mod Moves
pub mod Removals
pub mod cap_copies
