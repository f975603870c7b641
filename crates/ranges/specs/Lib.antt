pub mod Edges
pub mod Inside
pub mod Orders
pub mod Standing
