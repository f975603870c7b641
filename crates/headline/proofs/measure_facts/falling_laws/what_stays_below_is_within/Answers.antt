-- By the values of forms.
use Rattle.headline.proofs.measure_facts.FallsOverCalls.{stays-within}
use Rattle.headline.proofs.measure_facts.falling_laws.what_stays_below_is_within.Goals as goal

pub returns : goal.returns
returns c = stays-within
