-- With the rest of the words, written to the rest of the registers, the thread goes on as it is to.
use Rattle.std.proofs.Common.{◌≡◌, ◌≤◌, Some, drop, length}
use Rattle.model.specs.Kernel.Kinds.{kind_at}
use Rattle.model.specs.Kernel.Messages.{passes_with, word_registers, write_words}
use Rattle.model.specs.Kernel.Retype.{NewThread}
use Rattle.model.specs.Kernel.State.{thread_at}
use Rattle.objects.specs.Lives.{Parts, SameBeside, state_in}
use Rattle.ipc.proofs.deliveries.pass_with_words.Given as goal

abbrev pub invariant-words : goal.invariant-words
invariant-words g l =
    let now = state_in g.S.SlotMap.slots g.S.SlotStore.memory l.live in
    let first = state_in g.S.SlotMap.slots g.S.SlotStore.memory l.fn.live in
    record {
      there : kind_at now l.thread ≡ Some NewThread;
      state : passes_with now l.thread (write_words (thread_at now l.thread).registers (drop l.index word_registers) (drop l.index l.words))
          ≡ passes_with first l.thread (write_words (thread_at first l.thread).registers word_registers l.words);
      few : length l.words ≤ 8;
      beside : (later : Parts _) → SameBeside g.S.SlotMap.slots g.S.SlotStore.memory g.S.SlotStore.order l.live later
          → SameBeside g.S.SlotMap.slots g.S.SlotStore.memory g.S.SlotStore.order l.fn.live later;
    }
