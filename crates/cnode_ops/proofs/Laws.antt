-- What the crates above use of these proofs.
pub use Rattle.cnode_ops.proofs.CallRoots.{root-open, root-valid}
pub use Rattle.cnode_ops.proofs.FullSlots.{AreBehind, before-first, behind-first, behind-next, fewer-behind, found-member, last-found, none-passes, passes-full}
pub use Rattle.cnode_ops.proofs.OpenNodes.{sound-nodes}
pub use Rattle.cnode_ops.proofs.SomeSlot.{some-none, store-some}
pub use Rattle.cnode_ops.proofs.object_lifetimes.Laws.{consistent-of, kept, of-some, whole-of}
