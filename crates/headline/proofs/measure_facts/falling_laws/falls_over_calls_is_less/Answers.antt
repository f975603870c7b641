-- By the values of forms.
use Rattle.headline.proofs.measure_facts.FallsOverCalls.{falls-over}
use Rattle.headline.proofs.measure_facts.falling_laws.falls_over_calls_is_less.Goals as goal

pub returns : goal.returns
returns c = falls-over
