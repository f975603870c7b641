-- What the crates above use of these proofs.
pub use Rattle.queues.proofs.Beginnings.{begins_empty, nobody_named}
pub use Rattle.queues.proofs.Changing.{kinds_apart, ready_stays, waiting_stays}
