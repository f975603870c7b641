-- Each word is read from its register.
use Rattle.std.proofs.Common.{◌∙◌, min, ap, arith, rules}
use Rattle.ipc.proofs.Words.{eight-registers, one-read, words-are}
use Rattle.ipc.proofs.registers.words_of.Goals as goal
use Rattle.model.specs.Kernel.Messages.{word_registers}
use Rattle.model.specs.Kernel.State.{thread_at}
use Rattle.model.specs.Machine.ProgramMemory.{read}
use Rattle.objects.specs.Lives.{state_in}

pub words-preserved : goal.words-preserved
words-preserved g c =
    let r = (thread_at (state_in g.S.SlotMap.slots g.S.SlotStore.memory c.args.live.now) c.args.thread).registers in
    record {
      size = search rules;
      filled = one-read (read r) c.words.words word_registers c.words.index _ (omega (arith, c.words.invariant.size, c.words-test.true))
          (c.register.ensures ∙ ap (read r) c.word_register.ensures.register) c.words.invariant.filled;
    }

pub returns : goal.returns
returns g c =
    let r = (thread_at (state_in g.S.SlotMap.slots g.S.SlotStore.memory c.args.live.now) c.args.thread).registers in
    let held = min 8 c.args.count in
    words-are (read r) held c.words.words word_registers (omega (arith, c.words.invariant.size)) (omega (arith, eight-registers))
    (λ k less. c.words.invariant.filled k (omega (arith, less, c.words-test.false, c.min-held.ensures)))
