-- What is left of the words decides.
use Rattle.std.proofs.Common.{◌≡◌, ◌+◌, ◌≤◌, drop, length}
use Rattle.model.specs.Acceptance.Promises.{keep_words}
use Rattle.model.specs.Kernel.Messages.{word_registers}
use Rattle.typestate.proofs.plain_calls.keep_words.Given as goal

abbrev pub invariant-words : goal.invariant-words
invariant-words l = record {
  few : l.index + length l.word-iterator ≤ 8;
  left : keep_words l.fn.bounds (drop l.index word_registers) l.word-iterator ≡ keep_words l.fn.bounds word_registers l.fn.promise.words;
}
