-- Each term is no less than its least.
use Rattle.headline.proofs.measure_facts.LeastValues.{least-is}
use Rattle.headline.proofs.measure_facts.falling_laws.least_values_are_least.Goals as goal

pub returns : goal.returns
returns c = least-is
