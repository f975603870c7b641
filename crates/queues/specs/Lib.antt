pub mod Laws
pub mod Layout
pub mod Queues
pub mod Ready
pub mod Words
pub mod links
