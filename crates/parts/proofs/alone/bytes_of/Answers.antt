-- What does not fit, and refused memory.
use Rattle.parts.proofs.AloneImages.{if-memory, not-fit}
use Rattle.parts.proofs.alone.bytes_of.Goals as goal

pub returns-in-Ok-clause-refused : goal.returns-in-Ok-clause-refused
returns-in-Ok-clause-refused c = if-memory c.written.result c.args.parts c.written.ensures.memory

pub returns-clause-refused : goal.returns-clause-refused
returns-clause-refused c = not-fit c.args.parts c.in-Err.ensures.err.1
