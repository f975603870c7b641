-- Each instruction by itself.
use Rattle.headline.proofs.steps.EdgesTaken.{may-take}
use Rattle.headline.proofs.steps.edge_laws.an_instruction_takes_an_edge.Goals as goal

pub returns : goal.returns
returns c = may-take
