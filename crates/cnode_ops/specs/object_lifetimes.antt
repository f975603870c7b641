pub mod Beginnings
pub mod Kernels
