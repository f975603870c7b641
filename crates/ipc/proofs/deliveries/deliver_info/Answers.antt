-- One register after another.
use Rattle.std.proofs.Common.{◌∙◌}
use Rattle.ipc.proofs.SetRegisters.{passes-after, passes-own}
use Rattle.ipc.proofs.deliveries.deliver_info.Goals as goal
use Rattle.model.specs.Kernel.Messages.{a0, a1}
use Rattle.model.specs.Kernel.State.{thread_at}
use Rattle.model.specs.Machine.ProgramMemory.{RegisterFile, write}
use Rattle.objects.proofs.Laws.{beside-then}
use Rattle.objects.specs.Lives.{state_in}

pub returns-clause-state : goal.returns-clause-state
returns-clause-state g c =
    let first = state_in g.S.SlotMap.slots g.S.SlotStore.memory c.args.live.now in
    let second = state_in g.S.SlotMap.slots g.S.SlotStore.memory c.set_register.new.self in
    let third = state_in g.S.SlotMap.slots g.S.SlotStore.memory c.set_register-2.new.self in
    let t = c.args.thread in
    c.pass.ensures.state
    ∙ passes-own third t
    ∙ passes-after second t third (write (thread_at second t).registers a1 c.args.info) (λ (r : RegisterFile). r) c.set_register-2.ensures.state
    ∙ passes-after first t second (write (thread_at first t).registers a0 0) (λ (r : RegisterFile). write r a1 c.args.info) c.set_register.ensures.state

pub returns-clause-beside : goal.returns-clause-beside
returns-clause-beside g c =
    beside-then c.set_register.ensures.beside (beside-then c.set_register-2.ensures.beside c.pass.ensures.beside)
