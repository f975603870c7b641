-- By the kinds of calls and of capabilities.
use Rattle.headline.proofs.calls.MessageRules.{others-known, receives-known, sends-known}
use Rattle.headline.proofs.calls.message_rules.rules_on_messages_are_known.Goals as goal

pub returns : goal.returns
returns c = record { receives = receives-known; sends = sends-known; others = others-known }
