pub mod Answering
pub mod Used
