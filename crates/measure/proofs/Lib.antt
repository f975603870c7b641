pub mod LinearSums
pub mod Small
pub mod SumSteps
pub mod MeasuredValues
pub mod LoweredMeasures
