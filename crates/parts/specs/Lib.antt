pub mod Alone
pub mod ObjectSets
pub mod Outside
pub mod Promises
pub mod Taken
pub mod Uses
