mod facts
pub mod Laws
pub mod Labels
pub mod Numbers
pub mod RunningLabels
pub mod SpentLabels
pub mod Stretches
mod Fronts
