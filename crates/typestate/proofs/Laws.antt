-- What the crates above use of these proofs.
pub use Rattle.typestate.proofs.Allowed.{slots_allowed}
pub use Rattle.typestate.proofs.Compared.{decided, same-place}
pub use Rattle.typestate.proofs.FoundWindows.{windows-apart}
pub use Rattle.typestate.proofs.HeldCaps.{none-among, root-near, some-taken}
pub use Rattle.typestate.proofs.KernelDepths.{depth-is, stays-there}
pub use Rattle.typestate.proofs.LogParts.{next-part}
pub use Rattle.typestate.proofs.Lookups.{index-below}
pub use Rattle.typestate.proofs.MoveCalls.{map-at, map-rises}
pub use Rattle.typestate.proofs.NamedKeys.{EachKey, IsNamed, each-own, is_among, kept-rise, key-named, keys-rise, same-own-key}
pub use Rattle.typestate.proofs.RemovedOwn.{HeldElse, MayRemove, bound-empty, kept-is, own-same, removed-slots, reset}
pub use Rattle.typestate.proofs.RemovedSlots.{no-table}
pub use Rattle.typestate.proofs.Replayed.{listed-alone, replayed-more}
pub use Rattle.typestate.proofs.Rising.{RiseFrom, from-first, looks-same, noted-rises}
pub use Rattle.typestate.proofs.SlotLists.{noted-at}
pub use Rattle.typestate.proofs.Standing.{after-is, back-of, come-back-from, found-all, found-key, noted-keeps, noted-there, parent-key}
pub use Rattle.typestate.proofs.SwappedNames.{still-inverse, turned-there}
pub use Rattle.typestate.proofs.UnlinkedSlots.{image-unlinked}
