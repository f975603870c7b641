-- What the crates above use of these proofs.
pub use Rattle.pmem.proofs.WordLists.{length-part, length-words_bytes, words-same, words-written}
