-- The point keeps its rules, and those on its edge are what is claimed.
use Rattle.headline.proofs.calls.CallsBehind.{calls-behind}
use Rattle.headline.proofs.calls.call_laws.calls_lead_behind.Goals as goal

pub returns : goal.returns
returns c = calls-behind
