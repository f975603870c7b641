-- After the instruction each register lies in its range.
use Rattle.ranges.proofs.Laws.{written-in}
use Rattle.model_laws.proofs.result_laws.what_an_instruction_writes_lies_in_its_range.Goals as goal

pub returns : goal.returns
returns c = written-in
