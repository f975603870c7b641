pub mod KeptLeaves
pub mod Laws
pub mod Mappings
