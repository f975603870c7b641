-- What the crates above use of these proofs.
pub use Rattle.image_reading.proofs.CapabilityTests.{decides-guard, decides-test, test-decides}
pub use Rattle.image_reading.proofs.FormatLaws.{IsBytes}
pub use Rattle.image_reading.proofs.SpelledLists.{spelled-all, spelled-more}
pub use Rattle.image_reading.proofs.WholeImage.{bytes-fit, one-image, one-spelling, reading-spelled, spelled-reading}
pub use Rattle.image_reading.proofs.WordLaws.{unpacked-is, words-back, words-only}
pub use Rattle.image_reading.proofs.image_entries.Laws.{any-here, any-no, key-at}
