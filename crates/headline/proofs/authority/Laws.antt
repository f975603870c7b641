-- What the other modules use of these proofs.
pub use Rattle.headline.proofs.authority.FurtherUsed.{behind}
pub use Rattle.headline.proofs.authority.Awaited.{awaited-apart, blocked-awaits, first-waits, receiver-waits}
pub use Rattle.headline.proofs.authority.Interrupted.{Waits}
pub use Rattle.headline.proofs.authority.Interrupted.{bound-notification, raise-within}
pub use Rattle.headline.proofs.authority.MadeEndpoints.{outside-window}
pub use Rattle.headline.proofs.authority.MapsKept.{maps-own-kept}
pub use Rattle.headline.proofs.authority.QuietCalls.{quiet-same}
pub use Rattle.headline.proofs.authority.SlotCalls.{named-empty}
pub use Rattle.headline.proofs.authority.StandingDeletes.{deletes-leave, revokes-leave}
pub use Rattle.headline.proofs.authority.StartingMaps.{maps-own-at-start}
pub use Rattle.headline.proofs.authority.Stored.{capability_of, entered, entered-away, entered-here, got, passed}
pub use Rattle.headline.proofs.authority.Ticks.{thread-object, tick-within}
