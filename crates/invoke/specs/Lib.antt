pub mod Listed
pub mod Methods
