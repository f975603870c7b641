pub mod Calm
pub mod DeviceStarts
pub mod Endings
pub mod KeptEvents
pub mod LiveLines
pub mod Refusals
