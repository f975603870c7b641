-- The threads that are left are those after what was found.
use Rattle.std.proofs.Common.{◌≡◌, drop}
use Rattle.answering.specs.Answers.{AllShown}
use Rattle.answering.proofs.answers.answers_of.Given as goal

abbrev pub invariant-threads : goal.invariant-threads
invariant-threads l = record {
  rest : drop l.number l.fn.accepted.threads ≡ l.thread-iterator;
  shown : AllShown l.fn.accepted l.number l.found.items;
}
