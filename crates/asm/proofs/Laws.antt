-- What the crates above use of these proofs.
pub use Rattle.asm.proofs.ListedMeaning.{listing-means}
