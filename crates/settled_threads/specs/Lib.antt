pub mod Answering
pub mod Settled
pub mod Tested
pub mod Laws
