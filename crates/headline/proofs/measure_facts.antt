mod FormValues
mod GreatestValues
mod LeastValues
mod MeasureValues
mod WrittenForms
mod FallsIsLess
mod NotedTerms
mod FallsOverCalls
pub mod Laws
