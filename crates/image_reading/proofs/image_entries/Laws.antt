-- What the crates above use of these proofs.
pub use Rattle.image_reading.proofs.image_entries.Places.{AreHalved, any-here, any-no, key-at}
