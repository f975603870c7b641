pub mod Buffers
pub mod Configuring
