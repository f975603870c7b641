-- The difference of both measures has a value below its greatest.
use Rattle.headline.proofs.measure_facts.FallsIsLess.{falls-is-less}
use Rattle.headline.proofs.measure_facts.falling_laws.falls_is_less.Goals as goal

pub returns : goal.returns
returns c = falls-is-less
