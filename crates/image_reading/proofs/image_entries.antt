mod FrameSearches
mod Listed
mod MappedPages
mod Places
mod RegionSearches
pub mod Laws
