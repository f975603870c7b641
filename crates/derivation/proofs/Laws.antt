-- What the crates above use of these proofs.
pub use Rattle.derivation.proofs.Moves.{descendant-moved}
