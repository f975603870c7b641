-- What the crates above use of these proofs.
pub use Rattle.cnode_ops.proofs.object_lifetimes.Kept.{consistent-of, kept, whole-of}
pub use Rattle.cnode_ops.proofs.object_lifetimes.Marked.{are-laid}
pub use Rattle.cnode_ops.proofs.object_lifetimes.Places.{of-some}
