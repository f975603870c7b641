pub mod Shared
pub mod Machine
pub mod Capabilities
pub mod Kernel
pub mod Images
pub mod Acceptance
