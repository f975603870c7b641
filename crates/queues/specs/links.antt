pub mod Laws
pub mod Threaded
