-- What the crates above use of these proofs.
pub use Rattle.sinks.proofs.SinkLemmas.{Grows-then}
