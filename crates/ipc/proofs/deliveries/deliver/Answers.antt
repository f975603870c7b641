-- The badge, the info word and the words, one after another.
use Rattle.std.proofs.Common.{◌∙◌}
use Rattle.ipc.proofs.SetRegisters.{passes-after}
use Rattle.ipc.proofs.deliveries.deliver.Goals as goal
use Rattle.model.specs.Kernel.Messages.{a0, a1, passes_with, word_registers, write_words}
use Rattle.model.specs.Kernel.State.{thread_at}
use Rattle.model.specs.Machine.ProgramMemory.{RegisterFile, write}
use Rattle.objects.proofs.Laws.{beside-then}
use Rattle.objects.specs.Lives.{state_in}

pub returns-clause-state : goal.returns-clause-state
returns-clause-state g c =
    let first = state_in g.S.SlotMap.slots g.S.SlotStore.memory c.args.live.now in
    let second = state_in g.S.SlotMap.slots g.S.SlotStore.memory c.set_register.new.self in
    let third = state_in g.S.SlotMap.slots g.S.SlotStore.memory c.set_register-2.new.self in
    let words = c.args.message.now.words in
    let info = c.info.result in
    let t = c.args.thread in
    c.pass_with_words.ensures.state
    ∙ passes-after second t third (write (thread_at second t).registers a1 info) (λ (r : RegisterFile). write_words r word_registers words)
    c.set_register-2.ensures.state
    ∙ passes-after first t second (write (thread_at first t).registers a0 c.args.badge)
    (λ (r : RegisterFile). write_words (write r a1 info) word_registers words) c.set_register.ensures.state
    ∙ (λ i. passes_with first t
    (write_words (write (write (thread_at first t).registers a0 c.args.badge) a1 (c.info.ensures i)) word_registers words))

pub returns-clause-beside : goal.returns-clause-beside
returns-clause-beside g c =
    beside-then c.set_register.ensures.beside (beside-then c.set_register-2.ensures.beside c.pass_with_words.ensures.beside)
