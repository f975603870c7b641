pub mod Behind
pub mod Known
pub mod Laws
pub mod Messages
