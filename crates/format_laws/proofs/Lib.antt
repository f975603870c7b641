mod EntryFits
mod FormatFits
mod ImageFits
mod Certificates
pub mod Laws
