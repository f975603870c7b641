pub mod AloneImages
pub mod Dispatched
mod MappedReads
pub mod Naming
pub mod Rings
pub mod Roots
pub mod SameViews
pub mod Stepping
pub mod Viewed
pub mod Waiters
