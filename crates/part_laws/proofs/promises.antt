mod AloneItself
mod Events
mod RunsAlone
mod Undisturbed
pub mod Waiting
