mod ThreadKeys
mod NotedAfter
mod OwnSlots
mod RootCNode
mod TwoLookups
mod NotedLookups
mod NotedParents
mod NotedSlots
pub mod Laws
