-- What the crates above use of these proofs.
pub use Rattle.packed_slots.proofs.cached_slots.LeavesKept.{kept-more, nothing-kept}
