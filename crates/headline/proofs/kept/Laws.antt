-- What the other modules use of these proofs.
pub use Rattle.headline.proofs.kept.BlockSlots.{block-apart, block-thread}
pub use Rattle.headline.proofs.kept.Buffers.{code-stays, own-buffer, own-buffers}
pub use Rattle.headline.proofs.kept.CopiedBytes.{copied-here, IsCopied, buffer-bytes, copied-at, length-few, one-buffer}
pub use Rattle.headline.proofs.kept.EachOf.{Each, each-contained, each-picked, each-so, same-picked}
pub use Rattle.headline.proofs.kept.FramePlaces.{frame-aligned}
pub use Rattle.headline.proofs.kept.HangsKept.{hangs-kept}
pub use Rattle.headline.proofs.kept.KeptCode.{program-kept}
pub use Rattle.headline.proofs.kept.OwnBlocks.{one-object, thread-entry}
pub use Rattle.headline.proofs.kept.OwnKeys.{IsOwnKey, key-kept, keys-own, member-passes, noted-own}
pub use Rattle.headline.proofs.kept.StandingOn.{same-capability}
pub use Rattle.headline.proofs.kept.StartObjects.{listed-from}
pub use Rattle.headline.proofs.kept.ThreadsGiven.{IsGiven, given}
pub use Rattle.headline.proofs.kept.DevicePages.{device-word}
pub use Rattle.headline.proofs.kept.UnexecutedFrames.{unexecuted-apart}
