-- The words so far, and then the rest, are all of them.
use Rattle.std.proofs.Common.{◌≡◌, List, length, take, drop}
use Rattle.model.specs.Acceptance.CallRules.{all_known}
use Rattle.model.specs.Acceptance.Measures.{Measure}
use Rattle.model.specs.Acceptance.NotedStates.{NotedSlot}
use Rattle.model.specs.Kernel.Messages.{word_registers}
use Rattle.typestate.specs.Calls.{known_with}
use Rattle.typestate.proofs.Words.{prefixed}
use Rattle.typestate.proofs.messages.known_words.Given as goal

abbrev pub invariant-loop-index : goal.invariant-loop-index
invariant-loop-index l = record {
  long : length l.words ≡ 8;
  known : (slots : List NotedSlot) (measure : Measure) → let state = known_with l.bounds slots measure in
      let regs = take l.count word_registers in all_known l.at state regs ≡ prefixed (take l.index l.words) (all_known l.at state (drop l.index regs));
}
