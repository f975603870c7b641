-- Format by format.
use Rattle.headline.proofs.steps.edge_laws.decoded_fields_lie_in_their_ranges.Goals as goal
use Rattle.headline.proofs.facts.Laws.{decoded-instr}

pub returns : goal.returns
returns c = decoded-instr
