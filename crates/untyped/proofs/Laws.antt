-- What the crates above use of these proofs.
pub use Rattle.untyped.proofs.Multiples.{sum_is_multiple}
