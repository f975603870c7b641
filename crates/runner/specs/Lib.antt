pub mod Devices
pub mod Live
pub mod Running
pub mod Unverified
