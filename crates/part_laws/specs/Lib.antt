pub mod Agreeing
pub mod Both
pub mod Changes
pub mod Nothing
pub mod OutsideLaws
pub mod PromiseLaws
pub mod Using
pub mod own
