pub mod Events
pub mod HeldInside
pub mod Laws
pub mod OwnMaps
pub mod Ready
pub mod Scenarios
