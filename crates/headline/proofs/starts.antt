mod EntryRules
mod FilledCode
mod GivenSlots
mod LastFills
mod ListFacts
mod ProgramWords
mod SameSlots
mod StartMaps
mod StartObjects
mod StartPlaces
mod StartPrograms
mod ThreadStarts
pub mod Laws
