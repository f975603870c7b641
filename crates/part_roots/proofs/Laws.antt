-- What the crates above use of these proofs.
pub use Rattle.part_roots.proofs.RootedParts.{rooted-grown}
