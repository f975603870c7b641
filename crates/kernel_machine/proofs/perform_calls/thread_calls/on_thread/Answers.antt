-- The thread is there, and what each call leaves is what its definition says.
use Rattle.std.proofs.Common.{◌≡◌, Ok, ap, subst, sym}
use Rattle.model.specs.Kernel.Outcomes.{GivesState}
use Rattle.model.specs.Kernel.State.{State}
use Rattle.model.specs.Kernel.ThreadCalls.{on_thread}
use Rattle.model.specs.declared.invocations.ThreadCall.{ThreadCall}
use Rattle.objects.specs.Lives.{state_in}
use Rattle.objects.specs.Tables.{state_of}
use Rattle.cnode_ops.proofs.Laws.{root-valid}
use Rattle.kernel_machine.proofs.perform_calls.Roots.{thread-held}
use Rattle.kernel_machine.proofs.perform_calls.thread_calls.on_thread.Goals as goal
use Rattle.kernel_machine.specs.perform_calls.Calls.{call_of}

pub configure-requires-clause-valid : goal.configure-requires-clause-valid
configure-requires-clause-valid g c sound = root-valid _ c.args.call.root sound c.requires.call.root

pub configure-requires-clause-held : goal.configure-requires-clause-held
unfolding state_of
configure-requires-clause-held g c = thread-held (state_in g.S.SlotMap.slots g.S.SlotStore.memory c.args.kernel.now) (call_of c.args.call) c.args.thread
    c.requires.call c.requires.applies

pub set_buffer-requires-clause-valid : goal.set_buffer-requires-clause-valid
set_buffer-requires-clause-valid g c sound = root-valid _ c.args.call.root sound c.requires.call.root

pub set_buffer-requires-clause-held : goal.set_buffer-requires-clause-held
unfolding state_of
set_buffer-requires-clause-held g c = thread-held (state_in g.S.SlotMap.slots g.S.SlotStore.memory c.args.kernel.now) (call_of c.args.call) c.args.thread
    c.requires.call c.requires.applies

pub set_priority-requires : goal.set_priority-requires
unfolding state_of
set_priority-requires g c =
    record {
      held = thread-held (state_in g.S.SlotMap.slots g.S.SlotStore.memory c.args.kernel.now) (call_of c.args.call) c.args.thread c.requires.call
          c.requires.applies;
    }

pub set_register-requires : goal.set_register-requires
unfolding state_of
set_register-requires g c =
    record {
      held = thread-held (state_in g.S.SlotMap.slots g.S.SlotStore.memory c.args.kernel.now) (call_of c.args.call) c.args.thread c.requires.call
          c.requires.applies;
    }

pub resume-requires : goal.resume-requires
unfolding state_of
resume-requires g c =
    record {
      held = thread-held (state_in g.S.SlotMap.slots g.S.SlotStore.memory c.args.kernel.now) (call_of c.args.call) c.args.thread c.requires.call
          c.requires.applies;
    }

pub suspend-requires : goal.suspend-requires
unfolding state_of
suspend-requires g c =
    record {
      held = thread-held (state_in g.S.SlotMap.slots g.S.SlotStore.memory c.args.kernel.now) (call_of c.args.call) c.args.thread c.requires.call
          c.requires.applies;
    }

pub returns-in-Configure-clause-outcome : goal.returns-in-Configure-clause-outcome
returns-in-Configure-clause-outcome g c =
    subst (λ (a : ThreadCall). GivesState (on_thread (state_in g.S.SlotMap.slots g.S.SlotStore.memory c.args.kernel.now) (call_of c.args.call) c.args.thread a)
    c.configure.result
    (state_in g.S.SlotMap.slots g.S.SlotStore.memory c.configure.new.kernel)) (sym c.in-Configure.is) c.configure.ensures.outcome

pub returns-in-SetPriority-clause-outcome : goal.returns-in-SetPriority-clause-outcome
returns-in-SetPriority-clause-outcome g c =
    subst (λ (a : ThreadCall). GivesState (on_thread (state_in g.S.SlotMap.slots g.S.SlotStore.memory c.args.kernel.now) (call_of c.args.call) c.args.thread a)
    c.set_priority.result
    (state_in g.S.SlotMap.slots g.S.SlotStore.memory c.set_priority.new.kernel)) (sym c.in-SetPriority.is) c.set_priority.ensures.outcome

pub returns-in-SetRegister-clause-outcome : goal.returns-in-SetRegister-clause-outcome
returns-in-SetRegister-clause-outcome g c =
    subst (λ (a : ThreadCall). GivesState (on_thread (state_in g.S.SlotMap.slots g.S.SlotStore.memory c.args.kernel.now) (call_of c.args.call) c.args.thread a)
    c.set_register.result
    (state_in g.S.SlotMap.slots g.S.SlotStore.memory c.set_register.new.kernel)) (sym c.in-SetRegister.is) c.set_register.ensures.outcome

pub returns-in-Resume-clause-outcome : goal.returns-in-Resume-clause-outcome
returns-in-Resume-clause-outcome g c =
    let t = state_in g.S.SlotMap.slots g.S.SlotStore.memory c.resume.new.kernel in
    subst (λ (a : ThreadCall). on_thread (state_in g.S.SlotMap.slots g.S.SlotStore.memory c.args.kernel.now) (call_of c.args.call) c.args.thread a ≡ Ok t)
    (sym c.in-Resume.is)
    (ap (λ (x : State). Ok x) (sym c.resume.ensures.state))

pub returns-in-Suspend-clause-outcome : goal.returns-in-Suspend-clause-outcome
returns-in-Suspend-clause-outcome g c =
    let t = state_in g.S.SlotMap.slots g.S.SlotStore.memory c.suspend.new.kernel in
    subst (λ (a : ThreadCall). on_thread (state_in g.S.SlotMap.slots g.S.SlotStore.memory c.args.kernel.now) (call_of c.args.call) c.args.thread a ≡ Ok t)
    (sym c.in-Suspend.is)
    (ap (λ (x : State). Ok x) (sym c.suspend.ensures.state))

pub returns-in-SetBuffer-clause-outcome : goal.returns-in-SetBuffer-clause-outcome
returns-in-SetBuffer-clause-outcome g c =
    subst (λ (a : ThreadCall). GivesState (on_thread (state_in g.S.SlotMap.slots g.S.SlotStore.memory c.args.kernel.now) (call_of c.args.call) c.args.thread a)
    c.set_buffer.result
    (state_in g.S.SlotMap.slots g.S.SlotStore.memory c.set_buffer.new.kernel)) (sym c.in-SetBuffer.is) c.set_buffer.ensures.outcome
