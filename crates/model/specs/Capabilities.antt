-- Capabilities: their words and rights, the slots that hold them, and how they are found.
pub mod Rights
pub mod Conditions
pub mod CapabilityWords
pub mod CapabilityFields
pub mod CapabilityKinds
pub mod Slots
pub mod Lookup
pub mod LookupNumbers
pub mod Placement
pub mod Orders
