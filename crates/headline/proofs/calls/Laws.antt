-- What the other modules use of these proofs.
pub use Rattle.headline.proofs.calls.CallsBehind.{point-at}
pub use Rattle.headline.proofs.calls.KnownCalls.{passes, word-known, words-known}
