-- What the other modules use of these proofs.
pub use Rattle.headline.proofs.moves.Calling.{IsCounted, NoThread, counted}
pub use Rattle.headline.proofs.moves.Interrupts.{bound-there, unchanged-stand}
pub use Rattle.headline.proofs.moves.LeftAlone.{one-thread, stands-alone}
pub use Rattle.headline.proofs.moves.MessageSteps.{call-goes-well, call-leaves}
pub use Rattle.headline.proofs.moves.NamedSlots.{held-there, named-here}
pub use Rattle.headline.proofs.moves.NotificationCalls.{HasSignalled, signal-leaves-so}
pub use Rattle.headline.proofs.moves.Passing.{next-address}
pub use Rattle.headline.proofs.moves.Places.{at-endpoint, blocked, blocked-there, caller-here, caller-there, delivered-here, delivered-there, endpoint-here}
pub use Rattle.headline.proofs.moves.Places.{endpoint-there, passed, passed-there, went-here, went-there, with-here, with-there, woke, woke-there}
pub use Rattle.headline.proofs.moves.PlainSteps.{plain-leaves}
pub use Rattle.headline.proofs.moves.Puts.{decided, other-label, own-label, put-here, put-there}
pub use Rattle.headline.proofs.moves.ReceiveCalls.{IsFine}
pub use Rattle.headline.proofs.moves.Runs.{idle-is, run-goes-by, step-cases, step-goes-by}
pub use Rattle.headline.proofs.moves.SimpleCalls.{calls-on, passes-stand, result-stands}
pub use Rattle.headline.proofs.moves.Ticks.{one-event}
pub use Rattle.headline.proofs.moves.Waiters.{StandsWaiting, stands-waiting}
pub use Rattle.headline.proofs.moves.Woken.{runs-free}
