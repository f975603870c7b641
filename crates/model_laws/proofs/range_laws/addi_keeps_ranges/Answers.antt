-- What is written lies in the range, and the rest stays.
use Rattle.model_laws.proofs.RangesKept.{addi-keeps}
use Rattle.model_laws.proofs.range_laws.addi_keeps_ranges.Goals as goal

pub returns : goal.returns
returns c = addi-keeps
