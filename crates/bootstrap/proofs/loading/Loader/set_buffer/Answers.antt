-- By whether there is a buffer.
use Rattle.bootstrap.specs.Loading.{progress_of}
use Rattle.bootstrap.proofs.Started.{buffered, unbuffered}
use Rattle.bootstrap.proofs.loading.Loader.set_buffer.Goals as goal

pub returns-then-buffer-eq-NO_BUFFER-clause-outcome : goal.returns-then-buffer-eq-NO_BUFFER-clause-outcome
returns-then-buffer-eq-NO_BUFFER-clause-outcome c =
    unbuffered c.args.image.now.read.now c.args.tcb c.args.buffer (progress_of c.args.self.now) c.if-buffer-eq-NO_BUFFER.true

pub returns-clause-outcome : goal.returns-clause-outcome
returns-clause-outcome c =
    buffered c.args.image.now.read.now c.args.tcb c.args.buffer c.original_slot-frame.result (progress_of c.args.self.now) (progress_of c.call.new.self)
    c.call.result c.if-buffer-eq-NO_BUFFER.false c.original_slot-frame.ensures c.call.ensures.outcome
