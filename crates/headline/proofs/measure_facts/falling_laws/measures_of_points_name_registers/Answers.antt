-- The terms of each record do.
use Rattle.headline.proofs.measure_facts.NotedTerms.{noted-named}
use Rattle.headline.proofs.measure_facts.falling_laws.measures_of_points_name_registers.Goals as goal

pub returns : goal.returns
returns c = noted-named
