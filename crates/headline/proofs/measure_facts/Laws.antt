-- What the crates above use of these proofs.
pub use Rattle.headline.proofs.measure_facts.FallsIsLess.{falls-is-less}
pub use Rattle.headline.proofs.measure_facts.FallsOverCalls.{falls-over, stays-within}
pub use Rattle.headline.proofs.measure_facts.NotedTerms.{noted-named}
