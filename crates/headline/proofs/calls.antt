mod AllowedCalls
mod CallsBehind
mod GivenThreads
mod KnownCalls
mod MessageRules
mod PromisedMessages
mod WrittenMessages
mod WrittenRegisters
pub mod Laws
