-- By the cases of the instruction.
use Rattle.ranges.proofs.Laws.{instruction-keeps}
use Rattle.model_laws.proofs.result_laws.an_instruction_keeps_registers_in_their_ranges.Goals as goal

pub returns : goal.returns
returns c = instruction-keeps
