mod EachOf
mod OwnKeys
mod ThreadsGiven
mod KeptCode
mod StandingOn
mod StartObjects
mod OwnBlocks
mod BlockSlots
mod FrameRules
mod FramePlaces
mod CopiedBytes
mod Buffers
mod StoredPlaces
mod HangsKept
mod StartHangs
pub mod Laws
mod DevicePages
mod UnexecutedFrames
