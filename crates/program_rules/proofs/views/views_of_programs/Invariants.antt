-- What was seen, with what is seen of the threads that are left, is of all threads.
use Rattle.std.proofs.Common.{◌≡◌, drop}
use Rattle.program_rules.proofs.ViewedThreads.{AreMade}
use Rattle.program_rules.proofs.views.views_of_programs.Given as goal

abbrev pub invariant-threads : goal.invariant-threads
invariant-threads l = record {
  rest : drop l.number l.fn.image.threads ≡ l.thread-iterator;
  made : AreMade l.fn.image l.fn.image.threads l.number l.thread-iterator l.views.items;
}
