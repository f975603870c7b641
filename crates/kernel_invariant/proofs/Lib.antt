mod Agreeing
mod Bare
mod Grown
mod GrownPlaces
mod GrownTables
mod ObjectsAgree
mod Lessened
mod Mutated
mod NewBegin
mod NewBeside
mod NewPlaced
mod NewStates
mod OneMore
mod Puts
mod RoomsMade
mod Steps
mod Whole
pub mod Laws
