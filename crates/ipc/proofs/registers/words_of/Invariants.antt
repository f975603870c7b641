-- The words so far are those of the registers.
use Rattle.std.proofs.Common.{ℕ, ◌≡◌, ◌<◌, length}
use Rattle.std.specs.Prelude.{slice_index, slice_index_or}
use Rattle.model.specs.Kernel.Messages.{register, word_registers}
use Rattle.model.specs.Kernel.State.{thread_at}
use Rattle.model.specs.Machine.ProgramMemory.{read}
use Rattle.objects.specs.Lives.{state_in}
use Rattle.ipc.proofs.registers.words_of.Given as goal

abbrev pub invariant-words : goal.invariant-words
invariant-words g l =
    let r = (thread_at (state_in g.S.SlotMap.slots g.S.SlotStore.memory l.live) l.thread).registers in
    record {
      size : length l.words ≡ 8;
      filled : (k : ℕ) → k < l.index → slice_index l.words k ≡ read r (slice_index_or word_registers k (register 0));
    }
