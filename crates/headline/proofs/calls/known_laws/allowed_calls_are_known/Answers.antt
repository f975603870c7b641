-- The call's rule is kept, and each register that it depends on has one value.
use Rattle.headline.proofs.calls.AllowedCalls.{call-allowed}
use Rattle.headline.proofs.calls.KnownCalls.{call-known, name-known, word-known, words-known}
use Rattle.headline.proofs.calls.known_laws.allowed_calls_are_known.Goals as goal

pub returns : goal.returns
returns c = record { allowed = call-allowed; number = call-known; named = name-known; word = word-known; words = words-known }
