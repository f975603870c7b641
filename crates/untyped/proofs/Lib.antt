mod Multiples
pub mod Laws
