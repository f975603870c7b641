-- What was drawn, with what is drawn of the threads that are left, is of all threads.
use Rattle.std.proofs.Common.{◌≡◌, drop}
use Rattle.responses.proofs.OutlinedThreads.{AreMade}
use Rattle.responses.proofs.outlines.outlines_of.Given as goal

abbrev pub invariant-threads : goal.invariant-threads
invariant-threads l = record {
  rest : drop l.number l.fn.image.threads ≡ l.thread-iterator;
  made : AreMade l.fn.image l.fn.image.threads l.number l.thread-iterator l.outlines.items;
}
