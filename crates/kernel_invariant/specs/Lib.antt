pub mod Agreement
pub mod Growing
pub mod Rooms
pub mod Wholeness
