pub mod Ancestors
pub mod BytesLemmas
pub mod ConditionTests
pub mod Depths
pub mod Derivations
pub mod FieldsLemmas
pub mod Orders
pub mod SlotChanges
