-- What the crates above use of these proofs.
pub use Rattle.user_memory.proofs.Iterated.{label-more, labels-more, no-steps, none-seen, one-more, steps-more}
pub use Rattle.user_memory.proofs.ThreadsNear.{thread-near}
