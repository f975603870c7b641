-- What the crates above use of these proofs.
pub use Rattle.cspace.proofs.Places.{slot_below}
