pub mod Loading
pub mod Standing
