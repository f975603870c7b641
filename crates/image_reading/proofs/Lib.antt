mod CapabilityTests
mod EntryLists
mod FormatLaws
mod RangeEntries
mod SectionSizes
mod SpelledLists
mod ThreadLaws
mod WholeImage
mod WholeReading
mod WordLaws
mod Words
pub mod Laws
