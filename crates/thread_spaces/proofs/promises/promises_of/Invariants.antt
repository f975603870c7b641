-- What is placed, and what is left.
use Rattle.thread_spaces.proofs.PromisesPlaced.{AllFit, AreLeft}
use Rattle.thread_spaces.proofs.promises.promises_of.Given as goal

abbrev pub invariant-loop-promise : goal.invariant-loop-promise
invariant-loop-promise l = record {
  left : AreLeft l.placed.image.now l.promises l.promise-iterator;
  fit : AllFit l.placed.image.now l.promise-iterator;
}
