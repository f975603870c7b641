mod HeldPuts
pub mod Laws
mod RootedParts
mod SameLooks
mod SetSays
mod SwapSays
