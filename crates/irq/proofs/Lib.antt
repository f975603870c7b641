pub mod Binding
pub mod Bound
pub mod Handling
pub mod Left
