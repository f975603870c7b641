mod AloneImages
mod Apart
mod Left
mod ObjectSets
mod OfThreads
mod Outside
mod TakenLists
