-- The words that registers hold are read, and the length says which of them count.
use Rattle.std.proofs.Common.{◌≡◌, ◌∙◌, ◌/◌, length, min, ap, rules}
use Rattle.ipc.proofs.Words.{held-words}
use Rattle.ipc.proofs.registers.Message.sent.Goals as goal
use Rattle.model.specs.Kernel.Messages.{a1, length_of}
use Rattle.model.specs.Kernel.State.{thread_at}
use Rattle.model.specs.Machine.ProgramMemory.{read}
use Rattle.objects.specs.Lives.{state_in}

pub returns : goal.returns
returns g c =
    let r = (thread_at (state_in g.S.SlotMap.slots g.S.SlotStore.memory c.args.live.now) c.args.thread).registers in
    let words = c.words_of.result in
    let eight : length words ≡ 8 = search rules in
    let held : min 8 c.args.count ≡ length_of (read r a1) = c.requires.held.1 ∙ ap length_of c.requires.held.0 in
    λ i. record {
      label = c.requires.held.0 i / 4096;
      count = c.args.count;
      words = held-words (read r) words c.args.count _ eight held c.words_of.ensures i;
    }
