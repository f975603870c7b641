pub mod Formed
pub mod Frames
pub mod Laws
pub mod Points
pub mod Taken
