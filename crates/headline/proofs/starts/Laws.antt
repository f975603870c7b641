-- What the other modules use of these proofs.
pub use Rattle.headline.proofs.starts.GivenSlots.{IsListedSlot, at-key, slot-listed}
pub use Rattle.headline.proofs.starts.LastFills.{any-flat}
pub use Rattle.headline.proofs.starts.ListFacts.{contained, contains, none-at}
pub use Rattle.headline.proofs.starts.StartMaps.{listed-no-frame, original-no-frame}
